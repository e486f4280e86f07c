-- The sum of document 01: from a fresh ring, with one buffer lent throughout, the size of each holder's set
-- and the number of its records in the trail make n at every moment; so no run writes more than n times n
-- records, and so many always fit where the buffer is that long.
use mathlib.Core.Path.{◌≡◌, refl, ap, ◌∙◌}
use mathlib.Core.Bool.{Bool, true, false}
use mathlib.Core.List.{List, [], ◌∷◌}
use Prim.Native.Nat.{ℕ, ◌+◌, ◌*◌, ◌≤◌, ◌<◌}
use native.Mathlib.Nat.{add-zero, mul-le-mul}
use native.Mathlib.Omega.{arith}
use lib.ListN.{length, replicate}
use borrow.Author.Tests.{eq-eqb, ne_eqb}
use Rattle.limits.specs.Limits.{seats_least, seats_most}
use Rattle.limits.specs.Refusals.{Told, done, refused}
use Rattle.lists.specs.Counted.{sum}
use Rattle.lists.proofs.Counted.{sum_same, sum_plus, sum_const}
use Rattle.seats.specs.Sets.{size_of}
use Rattle.seats.proofs.Sets.{full_size}
use Rattle.ring.specs.Ring.{seat_of, fresh_ring, zero_ring, is_ring, every_seat_stands}
use Rattle.turn.specs.Turn.{turn_of}
use Rattle.ring.specs.Step.{slot_of, gone_at, count_at, count_in, ring_after, trail_after}
use Rattle.ring.specs.Refusals.{step_told}
use Rattle.ring.specs.Promise.{ring_of, trail_of}
use Rattle.trail.specs.Trail.{width, room_for}
use Rattle.ring.specs.declared.Ring.{Ring}
use Rattle.turn.specs.declared.Slot.{Slot}
use Rattle.turn.specs.declared.Seat.{Seat}
use Rattle.steps.specs.Run.{Marks, Bench, told_on, fresh_bench, Reached, start, run_on}
use Rattle.ring.proofs.Checked.{owner_below}
use Rattle.steps.proofs.Taken.{told_taken}
use Rattle.trail.proofs.RecordLaws.{room_bytes}
use Rattle.steps.proofs.After.{seat_after}
use Rattle.steps.proofs.Reached.{Stands, fresh_records, fresh_seat_lem, bench_after, reached_stands, reached_elim, run_reached}
use Rattle.demand2.specs.Records.{passing, held_by, records_by}
use Rattle.demand2.specs.Refused.{NoRoom, Answered, not_a_ring, wrong_mark, at_the_end, no_room, taken}
use Rattle.demand2.proofs.Tally.{tally_all, tally_holder, passing_split, passing_before, passing_step}
use Rattle.demand2.proofs.Gone.{turn_size}
use Rattle.demand2.proofs.Refused.{answers}

-- ---- what is said

-- for each holder: the size of its set plus the number of its records in the trail is n. And of all together:
-- n times n
pub record SumIsN (n : ℕ) (b : Bench) : Type 0 where
  pub each : (p : ℕ) → p < n → size_of (seat_of b.ring p).set + records_by p b ≡ n
  pub total : sum n (λ p. size_of (seat_of b.ring p).set) + b.ring.records ≡ n * n

-- at every moment of a run from a fresh ring, whether its steps are taken or refused
abbrev pub SumAlways : Type 0
SumAlways = (n : ℕ) (trail : List ℕ) → seats_least ≤ n → n ≤ seats_most → (ms : List Marks) → SumIsN n (run_on ms (fresh_bench n trail))

-- no run writes more than n times n records
abbrev pub AtMostSquare : Type 0
AtMostSquare = (n : ℕ) (trail : List ℕ) → seats_least ≤ n → n ≤ seats_most → (ms : List Marks) → (run_on ms (fresh_bench n trail)).ring.records ≤ n * n

-- a buffer for n times n records is never refused 8
abbrev pub NeverEight : Type 0
NeverEight = (n : ℕ) (trail : List ℕ) → seats_least ≤ n → n ≤ seats_most → width * (n * n) ≤ length trail
    → (ms : List Marks) (m : Marks) (place : ℕ) → told_on m (run_on ms (fresh_bench n trail)) ≡ refused 8 place → ⊥

-- ---- one step keeps both sums

module _ (r : Ring) (c : Slot) (most : r.n ≤ 32) (owner : c.owner < 32) where
  set_after : (p : ℕ) → p < r.n → size_of (seat_of (ring_after r c) p).set + count_at r c p ≡ size_of (seat_of r p).set
  set_after p l =
      ap (λ (s : Seat). size_of s.set + count_at r c p) (seat_after r c p l) ∙ turn_size c p (seat_of r p) (omega arith) owner

  total_after : sum r.n (λ p. size_of (seat_of (ring_after r c) p).set) + count_in r c ≡ sum r.n (λ p. size_of (seat_of r p).set)
  total_after =
      sum_plus (λ p. size_of (seat_of (ring_after r c) p).set) (count_at r c) r.n
      ∙ sum_same (λ p. size_of (seat_of (ring_after r c) p).set + count_at r c p) (λ p. size_of (seat_of r p).set) r.n set_after

  module _ (t : List ℕ) (fits : width * (r.records + count_in r c) ≤ length t) where
    by_holder : (p : ℕ) → p < r.n
        → passing (held_by p) 0 (r.records + count_in r c) (trail_after r c t) ≡ passing (held_by p) 0 r.records t + count_at r c p
    by_holder p l =
        let a = passing_split (held_by p) r.records (count_in r c) (trail_after r c t) in
        let b = passing_before (held_by p) r c t fits in
        let d = passing_step (held_by p) r c t fits in
        let e = tally_holder r c (held_by p) p (λ x n. ne_eqb x.holder p n) l in
        let f = tally_all (held_by p) r.time p (λ g. eq-eqb p p refl) (gone_at r c p) in
        omega arith

step_sum : (n bytes : ℕ) (m : Marks) (b : Bench) → Stands n bytes b → told_on m b ≡ done → SumIsN n b → SumIsN n (bench_after m b)
step_sum n bytes m b s e h =
    let t = told_taken b.ring m.send m.receive (length b.trail) e in
    let c = slot_of b.ring m.send m.receive in
    let v = t.valid in
    let low = owner_below b.ring (room_for (length b.trail)) v in
    let most = v.most in
    let q = s.seats in
    let fits = room_bytes _ _ t.room in
    record {
      each = λ p l.
          let i : p < b.ring.n = omega arith in
          let x = set_after b.ring c most (omega arith) p i in
          let y = by_holder b.ring c most (omega arith) b.trail fits p i in
          let z = h.each p l in
          omega arith;
      total =
          let x = total_after b.ring c most (omega arith) in
          let y = ap (λ (k : ℕ). sum k (λ p. size_of (seat_of (ring_after b.ring c) p).set)) q in
          let z = ap (λ (k : ℕ). sum k (λ p. size_of (seat_of b.ring p).set)) q in
          let w = h.total in
          omega arith;
    }

-- ---- a run

fresh_sum : (n : ℕ) (trail : List ℕ) → n ≤ 32 → SumIsN n (fresh_bench n trail)
unfolding passing
fresh_sum n trail h =
    let size : (p : ℕ) → p < n → size_of (seat_of (fresh_ring n) p).set ≡ n = λ p l. ap (λ (s : Seat). size_of s.set) (fresh_seat_lem n p l) ∙ full_size n h in
    let z = fresh_records n in
    record {
      each = λ p l. rw fresh_records (add-zero _ ∙ size p l);
      total =
          let a = sum_same (λ p. size_of (seat_of (fresh_ring n) p).set) (λ p. n) n size in
          let b = sum_const n n in
          omega arith;
    }

module _ (n : ℕ) (trail : List ℕ) (low : seats_least ≤ n) (high : n ≤ seats_most) where
  pub reached_sum : {b : Bench} → Reached n trail b → SumIsN n b
  reached_sum = reached_elim n trail low high (SumIsN n) (fresh_sum n trail high) (step_sum n (length trail))

  reached_most : {b : Bench} → Reached n trail b → b.ring.records ≤ n * n
  reached_most w = let t = (reached_sum w).total in omega arith

-- ---- the room

-- an answer 8 is one about the room
eight_room : (r : Ring) (send : Bool) (receive bytes place : ℕ) (a : Told) → Answered r send receive bytes a → a ≡ refused 8 place → NoRoom r send receive bytes
eight_room r send receive bytes place a (not_a_ring h) e = let z : ◌≡◌ {A = ℕ} 10 8 = cc in absurd (omega arith)
eight_room r send receive bytes place a (wrong_mark v w) e = let z : ◌≡◌ {A = ℕ} 6 8 = cc in absurd (omega arith)
eight_room r send receive bytes place a (at_the_end v w l) e = let z : ◌≡◌ {A = ℕ} 9 8 = cc in absurd (omega arith)
eight_room r send receive bytes place a (no_room v w l k) e = k
eight_room r send receive bytes place a (taken v w l k) e = let z : ◌≡◌ {A = ℕ} 0 1 = cc in absurd (omega arith)

-- the records of any step fit where those of n seats' whole sets do
step_fits : (n bytes : ℕ) (m : Marks) (b : Bench) → Stands n bytes b → SumIsN n b
    → b.ring.records + count_in b.ring (slot_of b.ring m.send m.receive) ≤ n * n
step_fits n bytes m b s h =
    let c = slot_of b.ring m.send m.receive in
    let v = s.valid in
    let low = owner_below b.ring (room_for bytes) v in
    let most = v.most in
    let q = s.seats in
    let x = total_after b.ring c most (omega arith) in
    let z = ap (λ (k : ℕ). sum k (λ p. size_of (seat_of b.ring p).set)) q in
    let w = h.total in
    omega arith

-- ---- the theorems

pub sum_always : SumAlways
sum_always n trail low high ms = reached_sum n trail low high (run_reached ms start)

pub at_most_square : AtMostSquare
at_most_square n trail low high ms = reached_most n trail low high (run_reached ms start)

pub never_eight : NeverEight
never_eight n trail low high long ms m place e =
    let b = run_on ms (fresh_bench n trail) in
    let w : Reached n trail b = run_reached ms start in
    let s = reached_stands n trail low high w in
    let f = step_fits n (length trail) m b s (reached_sum n trail low high w) in
    let k = eight_room b.ring m.send m.receive (length b.trail) place _ (answers b.ring m.send m.receive (length b.trail)) e in
    let l = s.kept in
    let sq : n * n ≤ 32 * 32 = mul-le-mul high high in
    omega arith

-- ---- one such run: 4 seats, a send fault of seat 2 at time 2, five steps; seat 0 has one record, seat 2 has two

quiet : Marks
quiet = record { send = false; receive = 0 }

example : (records_by 0 (run_on (quiet ∷ quiet ∷ record { send = true; receive = 0 } ∷ quiet ∷ quiet ∷ []) (fresh_bench 4 (replicate 80 0))) ≡ 1)
    × (records_by 2 (run_on (quiet ∷ quiet ∷ record { send = true; receive = 0 } ∷ quiet ∷ quiet ∷ []) (fresh_bench 4 (replicate 80 0))) ≡ 2)
unfolding quiet run_on ring_of trail_of step_told is_ring every_seat_stands fresh_ring zero_ring turn_of passing
example = (refl, refl)
