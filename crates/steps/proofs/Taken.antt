-- When a step is taken, and what it then gives; what a refused step gives. Assumes nothing.
use mathlib.Core.Path.{◌≡◌, refl, ap}
use mathlib.Core.Bool.{Bool, true, false, cond, not}
use mathlib.Core.List.{List}
use Prim.Native.Nat.{ℕ, ◌+◌, ◌^◌, ◌≤◌, ◌<◌}
use native.Mathlib.Omega.{arith}
use lib.Dec.{leb, eqb}
use lib.ListN.{length}
use borrow.Author.Tests.{leb-true, le-leb, eqb-false, ne_eqb, not-true}
use Rattle.limits.specs.Limits.{slots_most}
use Rattle.limits.specs.Refusals.{number_of, Told, done, refused}
use Rattle.limits.specs.declared.Refusal.TheVariants.{WrongMark, NoRoom, AtTheEnd, NotARing}
use Rattle.limits.proofs.Refusals.{not_done}
use Rattle.lists.proofs.Tests.{and-true, and_of}
use Rattle.seats.specs.Sets.{has_seat, full_set}
use Rattle.seats.proofs.Sets.{below_full, full_is}
use Rattle.ring.specs.Ring.{owner_of, is_ring}
use Rattle.ring.specs.Step.{slot_of, count_in, ring_after, trail_after}
use Rattle.trail.specs.Trail.{room_for}
use Rattle.ring.specs.Refusals.{marks_stand, step_told}
use Rattle.ring.specs.Promise.{ring_of, trail_of}
use Rattle.ring.proofs.Refusing.{all_checked}
use Rattle.ring.specs.declared.Ring.{Ring}
use Rattle.ring.proofs.Checked.{Valid, ring_valid, valid_ring}

-- a step that is taken, with a trail of so many bytes
pub record Taken (r : Ring) (send : Bool) (receive bytes : ℕ) : Type 0 where
  pub valid : Valid r (room_for bytes)
  pub within : receive < 2 ^ r.n
  pub others : has_seat receive (owner_of r) ≡ false
  pub before : r.time < slots_most
  pub room : r.records + count_in r (slot_of r send receive) ≤ room_for bytes

-- ---- the checks one after another

passed : (b : Bool) (t : Told) (k q : ℕ) → cond b t (refused k q) ≡ done → (b ≡ true) × (t ≡ done)
passed true t k q e = (refl, e)
passed false t k q e = not_done e

failed : (b : Bool) (t : Told) (k q : ℕ) → cond b (refused k q) t ≡ done → (b ≡ false) × (t ≡ done)
failed true t k q e = not_done e
failed false t k q e = (refl, e)

-- ---- when a step is taken

module _ (r : Ring) (send : Bool) (receive bytes : ℕ) where
  pub told_taken : step_told r send receive bytes ≡ done → Taken r send receive bytes
  unfolding step_told
  told_taken e =
      let a = passed (is_ring r (room_for bytes)) _ (number_of NotARing) 0 e in
      let v = ring_valid r (room_for bytes) a.0 in
      let b = passed (marks_stand r.n (slot_of r send receive)) _ (number_of WrongMark) r.time a.1 in
      let m = and-true _ _ b.0 in
      let c = failed (eqb r.time slots_most) _ (number_of AtTheEnd) slots_most b.1 in
      let d = passed (leb (r.records + count_in r (slot_of r send receive)) (room_for bytes)) done (number_of NoRoom) r.time c.1 in
      let n = eqb-false r.time slots_most c.0 in
      let l = v.soon in
      record {
        valid = v;
        within = below_full receive r.n v.most (leb-true _ _ m.0);
        others = not-true _ m.1;
        before = omega arith;
        room = leb-true _ _ d.0;
      }

  pub taken_told : Taken r send receive bytes → step_told r send receive bytes ≡ done
  taken_told t =
      let f = full_is r.n t.valid.most in
      let l = t.within in
      let m : marks_stand r.n (slot_of r send receive) ≡ true = and_of (le-leb receive (full_set r.n) (omega arith)) (ap not t.others) in
      let b = t.before in
      all_checked r send receive bytes (valid_ring r (room_for bytes) t.valid) m (ne_eqb r.time slots_most (omega arith)) (le-leb _ _ t.room)

-- ---- what it gives

module _ (r : Ring) (send : Bool) (receive : ℕ) (t : List ℕ) where
  pub taken_ring : step_told r send receive (length t) ≡ done → ring_of r send receive t ≡ ring_after r (slot_of r send receive)
  unfolding ring_of
  taken_ring e = rw e

  pub taken_trail : step_told r send receive (length t) ≡ done → trail_of r send receive t ≡ trail_after r (slot_of r send receive) t
  unfolding trail_of
  taken_trail e = rw e

  pub refused_ring : {k q : ℕ} → step_told r send receive (length t) ≡ refused k q → ring_of r send receive t ≡ r
  unfolding ring_of
  refused_ring e = rw e

  pub refused_trail : {k q : ℕ} → step_told r send receive (length t) ≡ refused k q → trail_of r send receive t ≡ t
  unfolding trail_of
  refused_trail e = rw e
