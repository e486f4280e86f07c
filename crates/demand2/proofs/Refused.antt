-- Demand 1 for a step: each step is answered as document 01's table says, with that answer alone, and a
-- refused one leaves the ring and every byte of the trail as they came.
use mathlib.Core.Path.{◌≡◌, refl, sym, ap, ◌∙◌, subst}
use mathlib.Core.Bool.{Bool, true, false, true≢false, false≢true, not-eq-not}
use mathlib.Core.List.{List}
use mathlib.Core.Logic.{inl, inr, ⊎_elim}
use Prim.Native.Nat.{ℕ, ◌+◌, ◌≤◌, ◌<◌}
use native.Mathlib.Omega.{arith}
use lib.Dec.{leb, eqb}
use lib.ListN.{replicate}
use borrow.Author.Tests.{leb-true, leb-false, eqb-true, eqb-false, eq-eqb, ne_eqb, le-leb, lt-leb, not-true, not-false}
use Rattle.std.specs.Prelude.{Err}
use Rattle.limits.specs.Refusals.{Told, done, refused, refused_at, tells}
use Rattle.lists.proofs.Tests.{both, and-true, and_fails}
use Rattle.seats.specs.Sets.{has_seat, full_set}
use Rattle.seats.proofs.Sets.{below_full, full_is, none_past, past_has}
use Rattle.ring.specs.Ring.{is_ring, owner_of, zero_ring, fresh_ring, with_counts, every_seat_stands}
use Rattle.turn.specs.Turn.{turn_of}
use Rattle.ring.specs.Step.{slot_of, count_in}
use Rattle.ring.specs.Refusals.{marks_stand, step_told}
use Rattle.ring.specs.Promise.{StepPromise, ring_of, trail_of}
use Rattle.trail.specs.Trail.{room_for}
use Rattle.ring.specs.declared.Ring.{Ring}
use Rattle.ring.specs.declared.Stepped.{Stepped}
use Rattle.ring.proofs.Refusing as checks
use Rattle.limits.specs.declared.Refusal.TheVariants.{NoRoom}
use Rattle.ring.proofs.Checked.{Valid, ring_valid, valid_ring}
use Rattle.steps.proofs.Taken.{refused_ring, refused_trail}
use Rattle.demand2.specs.Refused.{WrongMark, Answered, not_a_ring, wrong_mark, at_the_end, no_room, taken}

-- ---- what is said

-- every step is answered as the table says
abbrev pub Answers : Type 0
Answers = (r : Ring) (send : Bool) (receive bytes : ℕ) → Answered r send receive bytes (step_told r send receive bytes)

-- and no other answer is given: each refusal is given exactly when its row says so
abbrev pub OnlyAnswers : Type 0
OnlyAnswers = (r : Ring) (send : Bool) (receive bytes : ℕ) (a : Told) → Answered r send receive bytes a → a ≡ step_told r send receive bytes

-- a step that keeps the engine's promise and is refused: the ring and every byte of the trail are as they came
abbrev pub RefusedLeaves : Type 0
RefusedLeaves = (r : Ring) (send : Bool) (receive : ℕ) (t : List ℕ) (s : Stepped) (t' : List ℕ) → StepPromise r send receive t s t'
    → (number place : ℕ) → tells s.answer ≡ refused number place → (s.ring ≡ r) × (t' ≡ t)

-- ---- the tests, as the table's words

module _ (r : Ring) (send : Bool) (receive bytes : ℕ) where
  ring_false : (Valid r (room_for bytes) → ⊥) → is_ring r (room_for bytes) ≡ false
  ring_false h = not-eq-not.0 (λ e. h (ring_valid r (room_for bytes) e))

  marks_wrong : r.n ≤ 32 → marks_stand r.n (slot_of r send receive) ≡ false → WrongMark r receive
  marks_wrong h e =
      ⊎_elim
      (λ f.
      let l = leb-false receive (full_set r.n) f in
      let g = full_is r.n h in
      let q = past_has receive r.n (omega arith) in
      (q.0, q.1, inr (omega (arith, q.2))))
      (λ f. (owner_of r, not-false _ f, inl refl))
      (and_fails _ _ e)

  marks_right : r.n ≤ 32 → marks_stand r.n (slot_of r send receive) ≡ true → WrongMark r receive → ⊥
  marks_right h e w =
      let m = and-true _ _ e in
      let o = not-true _ m.1 in
      ⊎_elim
      (λ q. false≢true (sym (ap (λ (x : ℕ). has_seat receive x) q ∙ o) ∙ w.1))
      (λ l. false≢true (sym (none_past receive r.n w.0 (below_full receive r.n h (leb-true _ _ m.0)) l) ∙ w.1))
      w.2

  marks_true : r.n ≤ 32 → (WrongMark r receive → ⊥) → marks_stand r.n (slot_of r send receive) ≡ true
  marks_true h n = not-eq-not.0 (λ e. n (marks_wrong h e))

  marks_false : r.n ≤ 32 → WrongMark r receive → marks_stand r.n (slot_of r send receive) ≡ false
  marks_false h w = not-eq-not.0 (λ e. marks_right h e w)

  -- ---- a row of the table is the answer

  only : (a : Told) → Answered r send receive bytes a → a ≡ step_told r send receive bytes
  only a (not_a_ring h) = sym (checks.no_ring r send receive bytes (ring_false h))
  only a (wrong_mark v w) = sym (checks.wrong_mark r send receive bytes (valid_ring r (room_for bytes) v) (marks_false v.most w))
  only a (at_the_end v w e) =
      sym (checks.at_the_end r send receive bytes (valid_ring r (room_for bytes) v) (marks_true v.most w) (eq-eqb r.time 4096 e))
  only a (no_room v w l k) =
      sym
      (checks.no_room r send receive bytes (valid_ring r (room_for bytes) v) (marks_true v.most w) (ne_eqb r.time 4096 (omega arith))
      (lt-leb (r.records + count_in r (slot_of r send receive)) (room_for bytes) k))
  only a (taken v w l k) =
      sym
      (checks.all_checked r send receive bytes (valid_ring r (room_for bytes) v) (marks_true v.most w) (ne_eqb r.time 4096 (omega arith))
      (le-leb (r.records + count_in r (slot_of r send receive)) (room_for bytes) (omega arith)))

  -- ---- and there is a row for every step

  Row : Type 0
  Row = (a : Told) × Answered r send receive bytes a

  by_time : Valid r (room_for bytes) → (WrongMark r receive → ⊥) → Row
  unfolding Row
  by_time v w =
      ⊎_elim
      (λ e. (refused 9 4096, at_the_end v w (eqb-true _ _ e)))
      (λ e.
      let n = eqb-false r.time 4096 e in
      let s = v.soon in
      let l : r.time < 4096 = omega arith in
      ⊎_elim
      (λ f. (done, taken v w l (λ k. let h = leb-true (r.records + count_in r (slot_of r send receive)) (room_for bytes) f in omega arith)))
      (λ f. (refused 8 r.time, no_room v w l (leb-false _ _ f)))
      (both (leb (r.records + count_in r (slot_of r send receive)) (room_for bytes))))
      (both (eqb r.time 4096))

  by_ring : Row
  unfolding Row
  by_ring =
      ⊎_elim
      (λ e.
      let v = ring_valid r (room_for bytes) e in
      ⊎_elim
      (λ f. by_time v (marks_right v.most f))
      (λ f. (refused 6 r.time, wrong_mark v (marks_wrong v.most f)))
      (both (marks_stand r.n (slot_of r send receive))))
      (λ e. (refused 10 0, not_a_ring (λ v. true≢false (sym (valid_ring r (room_for bytes) v) ∙ e))))
      (both (is_ring r (room_for bytes)))

  answer : Answered r send receive bytes (step_told r send receive bytes)
  unfolding Row
  answer = subst (Answered r send receive bytes) (only by_ring.0 by_ring.1) by_ring.1

-- ---- the theorems

pub answers : Answers
answers = answer

pub only_answers : OnlyAnswers
only_answers = only

pub refused_leaves : RefusedLeaves
refused_leaves r send receive t s t' p number place e =
    let f = sym p.answer ∙ e in
    (p.ring ∙ refused_ring r send receive t f, p.trail ∙ refused_trail r send receive t f)

-- ---- each row of the table is given to some step

ten : step_told zero_ring false 0 20 ≡ refused 10 0
unfolding step_told is_ring zero_ring
ten = refl

six : step_told (fresh_ring 4) false 1 20 ≡ refused 6 0
unfolding step_told is_ring every_seat_stands fresh_ring zero_ring
six = refl

nine : step_told (with_counts (fresh_ring 4) 4 4096 0) false 0 20 ≡ refused 9 4096
unfolding step_told is_ring every_seat_stands fresh_ring zero_ring
nine = refl

eight : step_told (fresh_ring 4) true 0 14 ≡ refused 8 0
unfolding step_told is_ring every_seat_stands fresh_ring zero_ring turn_of
eight = refl

none : step_told (fresh_ring 4) true 0 15 ≡ done
unfolding step_told is_ring every_seat_stands fresh_ring zero_ring turn_of
none = refl

-- and the promise is kept of a refused step so
left_alone : StepPromise (fresh_ring 4) true 0 (replicate 14 7) (record { answer = Err (refused_at NoRoom 0); ring = fresh_ring 4 }) (replicate 14 7)
unfolding ring_of trail_of step_told is_ring every_seat_stands fresh_ring zero_ring turn_of
left_alone = record { answer = refl; ring = refl; trail = refl }
