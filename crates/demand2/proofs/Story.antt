-- One record for each removal and none besides: for every step taken, its sets and its records tell one story
-- (specs/Story.antt).
use mathlib.Core.Path.{◌≡◌, refl, sym, ap, ◌∙◌, subst}
use mathlib.Core.Bool.{Bool, true, false}
use mathlib.Core.List.{List, [], ◌∷◌}
use mathlib.Core.Logic.{⊎_elim}
use Prim.Native.Nat.{ℕ, ◌+◌, ◌-◌, ◌*◌, ◌≤◌, ◌<◌}
use native.Mathlib.Omega.{arith}
use lib.Dec.{ltb}
use lib.ListN.{length, get_or, replicate}
use borrow.Author.Tests.{ne_eqb, ltb-true, ltb-false}
use Rattle.std.specs.Prelude.{Ok}
use Rattle.limits.specs.Refusals.{done, tells}
use Rattle.lists.proofs.Tests.{both}
use Rattle.ring.specs.Ring.{seat_of, fresh_ring, zero_ring, is_ring, every_seat_stands}
use Rattle.turn.specs.Turn.{turn_of}
use Rattle.ring.specs.Step.{slot_of, count_in, ring_after, trail_after}
use Rattle.trail.specs.Trail.{width}
use Rattle.ring.specs.Refusals.{step_told}
use Rattle.ring.specs.Promise.{StepPromise, ring_of, trail_of}
use Rattle.ring.specs.declared.Ring.{Ring}
use Rattle.turn.specs.declared.Seat.{Seat}
use Rattle.turn.specs.declared.Slot.{Slot}
use Rattle.ring.specs.declared.Stepped.{Stepped}
use Rattle.steps.proofs.Taken.{told_taken, taken_ring, taken_trail}
use Rattle.trail.proofs.RecordLaws.{room_bytes}
use Rattle.steps.proofs.After.{seat_after, seat_beyond, length_after}
use Rattle.trail.specs.Trail.{record_at}
use Rattle.trail.specs.declared.Record.{Record}
use Rattle.demand2.specs.Records.{passing, tells_of}
use Rattle.demand2.specs.Story.{left, Says, Before, OneStory}
use Rattle.trail.specs.Trail.{no_record}
use Rattle.demand2.proofs.Entries.{records_in, records_count, record_within, byte_outside}
use Rattle.demand2.proofs.Tally.{one, tally, tally_holder, tally_nobody, passing_step}
use Rattle.demand2.proofs.Gone.{left_same, turn_left}
use Rattle.demand2.proofs.Standing.{says_step, ordered_step}

-- ---- what is said

-- every step that keeps the engine's promise and is taken
abbrev pub OneStoryEach : Type 0
OneStoryEach = (r : Ring) (send : Bool) (receive : ℕ) (t : List ℕ) (s : Stepped) (t' : List ℕ) → StepPromise r send receive t s t'
    → tells s.answer ≡ done → OneStory r (slot_of r send receive) t s.ring t'

-- ---- the records that tell of one holder and one removed seat

module _ (r : Ring) (c : Slot) (p q : ℕ) where
  alone : (e : Record) → (e.holder ≡ p → ⊥) → tells_of p q e ≡ false
  alone e n = rw (ne_eqb e.holder p n)

  step_tally : tally (tells_of p q) (records_in r c) ≡ one (left (seat_of r p).set (seat_of (ring_after r c) p).set q)
  step_tally =
      ⊎_elim
      (λ t.
      let l = ltb-true p r.n t in
      tally_holder r c (tells_of p q) p alone l
      ∙ turn_left r.time c p q (seat_of r p)
      ∙ sym (ap (λ (s : Seat). one (left (seat_of r p).set s.set q)) (seat_after r c p l)))
      (λ f.
      let l = ltb-false p r.n f in
      tally_nobody r c (tells_of p q) p alone l
      ∙ sym (ap one (left_same (seat_of r p).set q))
      ∙ sym (ap (λ (s : Seat). one (left (seat_of r p).set s.set q)) (seat_beyond r c p l)))
      (both (ltb p r.n))

-- ---- the step

module _ (r : Ring) (c : Slot) (t : List ℕ) (fits : width * (r.records + count_in r c) ≤ length t) where
  -- record i of the step
  at_record : (i : ℕ) → r.records ≤ i → i < r.records + count_in r c → get_or (records_in r c) (i - r.records) no_record ≡ record_at (trail_after r c t) i
  at_record i l h =
      let q : r.records + (i - r.records) ≡ i = omega arith in
      sym (record_within r c t fits (i - r.records) (omega arith)) ∙ ap (record_at (trail_after r c t)) q

  pub story_after : OneStory r c t (ring_after r c) (trail_after r c t)
  story_after =
      let m = records_count r c in
      record {
        counted = λ p q.
            let k : r.records + count_in r c - r.records ≡ count_in r c = omega arith in
            ap (λ (x : ℕ). passing (tells_of p q) r.records x (trail_after r c t)) k
            ∙ passing_step (tells_of p q) r c t fits
            ∙ step_tally r c p q;
        says = λ i l h. subst (Says r c) (at_record i l h) (says_step r c (i - r.records) (omega arith));
        order = λ i j l k h.
            let a = at_record i l (omega arith) in
            let b = at_record j (omega arith) h in
            let o = ordered_step r c (i - r.records) (j - r.records) (omega arith) (omega arith) in
            subst (λ (e : Record). Before e (record_at (trail_after r c t) j)) a (subst (λ (e : Record). Before (get_or (records_in r c) (i - r.records) no_record) e) b o);
        outside = λ j h. byte_outside r c t fits j h;
        size = length_after r c t fits;
      }

-- ---- the theorem

pub one_story : OneStoryEach
one_story r send receive t s t' p e =
    let d = sym p.answer ∙ e in
    let k = told_taken r send receive (length t) d in
    let c = slot_of r send receive in
    let a = sym (p.ring ∙ taken_ring r send receive t d) in
    let b = sym (p.trail ∙ taken_trail r send receive t d) in
    subst (λ (x : Ring). OneStory r c t x t') a (subst (λ (x : List ℕ). OneStory r c t (ring_after r c) x) b (story_after r c t (room_bytes _ _ k.room)))

-- ---- one such step: a fresh ring of 4, a send mark for seat 0, room for 3 records; each of the others removes seat 0 by c

example : StepPromise (fresh_ring 4) true 0 (replicate 15 7)
    (record { answer = Ok tt; ring = ring_of (fresh_ring 4) true 0 (replicate 15 7) })
    (0 ∷ 0 ∷ 1 ∷ 0 ∷ 99 ∷ 0 ∷ 0 ∷ 2 ∷ 0 ∷ 99 ∷ 0 ∷ 0 ∷ 3 ∷ 0 ∷ 99 ∷ [])
unfolding ring_of trail_of step_told is_ring every_seat_stands fresh_ring zero_ring turn_of
example = record { answer = refl; ring = refl; trail = refl }
