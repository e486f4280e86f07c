-- The whole trail, at every moment of a run from a fresh ring with one buffer lent throughout: each holder's
-- set can be told from its records, and the records stand by time, then holder, and cause a before cause c
-- (specs/Story.antt).
use mathlib.Core.Path.{◌≡◌, refl, sym, ap, ◌∙◌, subst₂}
use mathlib.Core.Bool.{Bool, true, false, cond, not, ◌&&◌, false≢true}
use mathlib.Core.List.{List}
use mathlib.Core.Logic.{◌⊎◌, inl, inr, ⊎_elim}
use Prim.Native.Nat.{ℕ, ◌+◌, ◌-◌, ◌*◌, ◌≤◌, ◌<◌}
use native.Mathlib.Omega.{arith}
use lib.Dec.{ltb}
use lib.ListN.{length}
use borrow.Author.Tests.{ltb-true, ltb-false}
use Rattle.limits.specs.Limits.{seats_least, seats_most}
use Rattle.limits.specs.Refusals.{done}
use Rattle.lists.proofs.Tests.{both}
use Rattle.seats.specs.Sets.{has_seat}
use Rattle.seats.proofs.Sets.{full_has}
use Rattle.ring.specs.Ring.{seat_of}
use Rattle.ring.specs.Step.{slot_of, count_in, ring_after, trail_after}
use Rattle.trail.specs.Trail.{width}
use Rattle.ring.specs.declared.Ring.{Ring}
use Rattle.turn.specs.declared.Seat.{Seat}
use Rattle.turn.specs.declared.Slot.{Slot}
use Rattle.steps.specs.Run.{Marks, Bench, told_on, fresh_bench, start, run_on}
use Rattle.steps.proofs.Taken.{told_taken}
use Rattle.trail.proofs.RecordLaws.{room_bytes}
use Rattle.steps.proofs.After.{seat_after}
use Rattle.steps.proofs.Reached.{Stands, fresh_records, fresh_seat_lem, bench_after, reached_elim, run_reached}
use Rattle.trail.specs.Trail.{record_at}
use Rattle.trail.specs.declared.Record.{Record}
use Rattle.demand2.specs.Records.{passing, tells_of}
use Rattle.demand2.specs.Story.{Before, OneStory, WholeStory}
use Rattle.demand2.proofs.Entries.{record_before}
use Rattle.demand2.proofs.Tally.{one, passing_split, passing_before}
use Rattle.demand2.proofs.Gone.{turn_within}
use Rattle.demand2.proofs.Story.{story_after}

-- ---- what is said

abbrev pub WholeStoryAlways : Type 0
WholeStoryAlways = (n : ℕ) (trail : List ℕ) → seats_least ≤ n → n ≤ seats_most → (ms : List Marks) → WholeStory n (run_on ms (fresh_bench n trail))

-- ---- one step

-- one who was in the set is in it, or has left it
once : (before after : Bool) → (after ≡ true → before ≡ true) → cond before 0 1 + one (before && not after) ≡ cond after 0 1
once true true h = refl
once true false h = refl
once false true h = absurd (false≢true (h refl))
once false false h = refl

-- two records of the trail, one before the other
abbrev Earlier : Record → Record → Type 0
Earlier e f = (e.time < f.time) ⊎ ((e.time ≡ f.time) × Before e f)

module _ (r : Ring) (c : Slot) (t : List ℕ) (fits : width * (r.records + count_in r c) ≤ length t) where
  story : OneStory r c t (ring_after r c) (trail_after r c t)
  story = story_after r c t fits

  rebuilt_after : (p q : ℕ) → p < r.n → passing (tells_of p q) 0 r.records t ≡ cond (has_seat (seat_of r p).set q) 0 1
      → passing (tells_of p q) 0 (r.records + count_in r c) (trail_after r c t) ≡ cond (has_seat (seat_of (ring_after r c) p).set q) 0 1
  rebuilt_after p q l h =
      let e = seat_after r c p l in
      let k : r.records + count_in r c - r.records ≡ count_in r c = omega arith in
      let a = passing_split (tells_of p q) r.records (count_in r c) (trail_after r c t) in
      let b = passing_before (tells_of p q) r c t fits in
      let d = ap (λ (x : ℕ). passing (tells_of p q) r.records x (trail_after r c t)) (sym k) ∙ story.counted p q in
      let w : has_seat (seat_of (ring_after r c) p).set q ≡ true → has_seat (seat_of r p).set q ≡ true =
      λ i. turn_within c p q (seat_of r p) (ap (λ (s : Seat). has_seat s.set q) (sym e) ∙ i) in
      let o = once (has_seat (seat_of r p).set q) (has_seat (seat_of (ring_after r c) p).set q) w in
      omega arith

  module _ (past : (i : ℕ) → i < r.records → (record_at t i).time < r.time) where
    old_time : (i : ℕ) → i < r.records → (record_at (trail_after r c t) i).time < r.time
    old_time i l = let a = past i l in let b = ap (λ (e : Record). e.time) (record_before r c t fits i l) in omega arith

    new_time : (i : ℕ) → r.records ≤ i → i < r.records + count_in r c → (record_at (trail_after r c t) i).time ≡ r.time
    new_time i l h = (story.says i l h).time

    past_after : (i : ℕ) → i < r.records + count_in r c → (record_at (trail_after r c t) i).time < r.time + 1
    past_after i l =
        ⊎_elim
        (λ u. let a = old_time i (ltb-true i r.records u) in omega arith)
        (λ u. let a = new_time i (ltb-false i r.records u) l in omega arith)
        (both (ltb i r.records))

    order_after : ((i j : ℕ) → i < j → j < r.records → Earlier (record_at t i) (record_at t j))
        → (i j : ℕ) → i < j → j < r.records + count_in r c → Earlier (record_at (trail_after r c t) i) (record_at (trail_after r c t) j)
    order_after old i j l h =
        ⊎_elim
        (λ u.
        let k = ltb-true j r.records u in
        subst₂ Earlier (sym (record_before r c t fits i (omega arith))) (sym (record_before r c t fits j k)) (old i j l k))
        (λ u.
        let k = ltb-false j r.records u in
        let y = new_time j k h in
        ⊎_elim
        (λ v. let x = old_time i (ltb-true i r.records v) in inl (omega arith))
        (λ v.
        let g = ltb-false i r.records v in
        inr (new_time i g (omega arith) ∙ sym y, story.order i j g l h))
        (both (ltb i r.records)))
        (both (ltb j r.records))

step_whole : (n bytes : ℕ) (m : Marks) (b : Bench) → Stands n bytes b → told_on m b ≡ done → WholeStory n b → WholeStory n (bench_after m b)
step_whole n bytes m b s e h =
    let c = slot_of b.ring m.send m.receive in
    let k = told_taken b.ring m.send m.receive (length b.trail) e in
    let fits = room_bytes _ _ k.room in
    let z = s.seats in
    record {
      rebuilt = λ p q l i. rebuilt_after b.ring c b.trail fits p q (omega arith) (h.rebuilt p q l i);
      past = past_after b.ring c b.trail fits h.past;
      order = order_after b.ring c b.trail fits h.past h.order;
    }

-- ---- a run

fresh_whole : (n : ℕ) (trail : List ℕ) → n ≤ 32 → WholeStory n (fresh_bench n trail)
unfolding passing
fresh_whole n trail h =
    let z = fresh_records n in
    record {
      rebuilt = λ p q l i.
          rw fresh_records
          (sym (ap (λ (x : Bool). cond x 0 1) (ap (λ (s : Seat). has_seat s.set q) (fresh_seat_lem n p l) ∙ full_has n q h i)));
      past = λ i l. absurd (omega arith);
      order = λ i j l k. absurd (omega arith);
    }

-- ---- the theorem

pub whole_story : WholeStoryAlways
whole_story n trail low high ms =
    reached_elim n trail low high (WholeStory n) (fresh_whole n trail high) (step_whole n (length trail)) (run_reached ms start)
