-- Runs: a fresh ring is a ring, and so is every ring that a run from it comes to. Assumes nothing.
use mathlib.Core.Path.{◌≡◌, refl, sym, ap, ◌∙◌, subst}
use mathlib.Core.Bool.{Bool, false}
use mathlib.Core.List.{List, [], ◌∷◌, ◌++◌}
use mathlib.Core.Logic.{⊎_elim}
use Prim.Native.Nat.{ℕ, ◌≤◌, ◌<◌}
use native.Mathlib.Nat.{le_refl}
use native.Mathlib.Omega.{arith}
use lib.Pow.{pow_pos}
use lib.ListN.{length}
use Rattle.limits.specs.Limits.{seats_least, seats_most}
use Rattle.limits.specs.Refusals.{done, refused}
use Rattle.limits.proofs.Refusals.{told_is}
use Rattle.std.specs.Prelude.{Option, None}
use Rattle.lists.proofs.Counted.{get_or_alike}
use Rattle.seats.proofs.Sets.{full_is}
use Rattle.ring.specs.Ring.{seat_of, no_seat, fresh_seat, zero_ring, fresh_ring}
use Rattle.ring.specs.Step.{slot_of, ring_after, trail_after}
use Rattle.trail.specs.Trail.{room_for}
use Rattle.steps.specs.Run.{Marks, Bench, told_on, step_on, fresh_bench, Reached, start, taken, run_on}
use Rattle.ring.proofs.Checked.{Valid, Member}
use Rattle.ring.proofs.Drawing.{undrawn_seat}
use Rattle.steps.proofs.Drawn.{drawn_seat}
use Rattle.steps.proofs.Taken.{told_taken, refused_ring, refused_trail, taken_ring, taken_trail}
use Rattle.trail.proofs.RecordLaws.{room_bytes}
use Rattle.steps.proofs.After.{valid_after, length_after}

-- ---- a fresh ring

pub fresh_n : (n : ℕ) → (fresh_ring n).n ≡ n
unfolding fresh_ring
fresh_n n = refl

pub fresh_time : (n : ℕ) → (fresh_ring n).time ≡ 0
unfolding fresh_ring
fresh_time n = refl

pub fresh_records : (n : ℕ) → (fresh_ring n).records ≡ 0
unfolding fresh_ring
fresh_records n = refl

pub fresh_seat_lem : (n p : ℕ) → p < n → seat_of (fresh_ring n) p ≡ fresh_seat n
unfolding fresh_ring
fresh_seat_lem n = drawn_seat n zero_ring (λ q. fresh_seat n)

zero_seat : (p : ℕ) → seat_of zero_ring p ≡ no_seat
unfolding zero_ring
zero_seat p = rw (get_or_alike {A = ℕ} seats_most p 0, get_or_alike {A = Bool} seats_most p false, get_or_alike {A = Option ℕ} seats_most p None)

pub fresh_beyond : (n p : ℕ) → n ≤ p → seat_of (fresh_ring n) p ≡ no_seat
unfolding fresh_ring
fresh_beyond n p l = undrawn_seat n zero_ring (λ q. fresh_seat n) p l ∙ zero_seat p

pub fresh_valid : (n room : ℕ) → seats_least ≤ n → n ≤ seats_most → Valid (fresh_ring n) room
fresh_valid n room l h =
    let e = full_is n h in
    let z = pow_pos n in
    let en = fresh_n n in
    let m : Member n 0 (fresh_seat n) = record { inside = omega arith; past = le_refl 0 } in
    record {
      least = rw fresh_n l;
      most = rw fresh_n h;
      soon = rw fresh_time (omega arith);
      fits = rw fresh_records (omega arith);
      member = λ p k. let i : p < n = omega (arith, k) in rw (fresh_n n, fresh_time n, fresh_seat_lem n p i) m;
      absent = λ p k q. fresh_beyond n p (omega (arith, k));
    }

-- ---- a step of a run

-- the bench after a step that is taken
abbrev pub bench_after : Marks → Bench → Bench
bench_after m b = record {
  ring = ring_after b.ring (slot_of b.ring m.send m.receive);
  trail = trail_after b.ring (slot_of b.ring m.send m.receive) b.trail;
}

pub step_after : (m : Marks) (b : Bench) → told_on m b ≡ done → step_on m b ≡ bench_after m b
step_after m b e =
    let f = taken_ring b.ring m.send m.receive b.trail e in
    let g = taken_trail b.ring m.send m.receive b.trail e in
    λ i. record { ring = f i; trail = g i }

-- ---- every bench of a run

-- a ring of n seats, with a trail of the first one's length
pub record Stands (n bytes : ℕ) (b : Bench) : Type 0 where
  pub valid : Valid b.ring (room_for bytes)
  pub seats : b.ring.n ≡ n
  pub kept : length b.trail ≡ bytes

pub step_stands : (n bytes : ℕ) (m : Marks) (b : Bench) → Stands n bytes b → told_on m b ≡ done → Stands n bytes (bench_after m b)
step_stands n bytes m b s e =
    let t = told_taken b.ring m.send m.receive (length b.trail) e in
    let c = slot_of b.ring m.send m.receive in
    let k = s.kept in
    record {
      valid = rw k at (valid_after b.ring m.send m.receive (room_for (length b.trail)) t.valid t.before t.room);
      seats = s.seats;
      kept = length_after b.ring c b.trail (room_bytes _ _ t.room) ∙ s.kept;
    }

module _ (n : ℕ) (trail : List ℕ) (low : seats_least ≤ n) (high : n ≤ seats_most) where
  pub start_stands : Stands n (length trail) (fresh_bench n trail)
  start_stands = record { valid = fresh_valid n (room_for (length trail)) low high; seats = fresh_n n; kept = refl }

  pub reached_stands : {b : Bench} → Reached n trail b → Stands n (length trail) b
  reached_stands start = start_stands
  reached_stands (taken {b = b} w m e) =
      let s = reached_stands w in
      subst (λ (x : Bench). Stands n (length trail) x) (sym (step_after m b e)) (step_stands n (length trail) m b s e)

  -- what holds at the start, and after each step taken where it held before, holds at every moment of the run
  pub reached_elim : (P : Bench → Type 0) → P (fresh_bench n trail)
      → ((m : Marks) (b : Bench) → Stands n (length trail) b → told_on m b ≡ done → P b → P (bench_after m b))
      → {b : Bench} → Reached n trail b → P b
  reached_elim P base next start = base
  reached_elim P base next (taken {b = b} w m e) =
      subst P (sym (step_after m b e)) (next m b (reached_stands w) e (reached_elim P base next w))

-- ---- a run whose steps are taken or refused

pub step_refused : (m : Marks) (b : Bench) {k q : ℕ} → told_on m b ≡ refused k q → step_on m b ≡ b
step_refused m b e =
    let f = refused_ring b.ring m.send m.receive b.trail e in
    let g = refused_trail b.ring m.send m.receive b.trail e in
    λ i. record { ring = f i; trail = g i }

-- the trail keeps its length
pub step_length : (m : Marks) (b : Bench) → length (step_on m b).trail ≡ length b.trail
step_length m b =
    ⊎_elim
    (λ e.
    let t = told_taken b.ring m.send m.receive (length b.trail) e in
    ap (λ (x : Bench). length x.trail) (step_after m b e)
    ∙ length_after b.ring (slot_of b.ring m.send m.receive) b.trail (room_bytes _ _ t.room))
    (λ x. ap (λ (y : Bench). length y.trail) (step_refused m b x.2))
    (told_is (told_on m b))

-- steps after steps
pub run-append : (ms more : List Marks) (b : Bench) → run_on (ms ++ more) b ≡ run_on more (run_on ms b)
unfolding run_on
run-append [] more b = refl
run-append (m ∷ ms) more b = run-append ms more (step_on m b)

-- a refused step leaves the bench, so such a run comes to the benches of one whose steps are all taken
pub run_reached : {n : ℕ} {trail : List ℕ} (ms : List Marks) {b : Bench} → Reached n trail b → Reached n trail (run_on ms b)
unfolding run_on
run_reached [] w = w
run_reached {n} {trail} (m ∷ ms) {b} w =
    ⊎_elim
    (λ e. run_reached ms (taken w m e))
    (λ x. run_reached ms (subst (λ (y : Bench). Reached n trail y) (sym (step_refused m b x.2)) w))
    (told_is (told_on m b))
