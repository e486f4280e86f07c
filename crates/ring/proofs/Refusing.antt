-- The checks of a step in their order, and the promise kept where it is refused and where it is taken.
-- Assumes nothing.
use mathlib.Core.Path.{◌≡◌, refl, sym, ap, ◌∙◌}
use mathlib.Core.Bool.{Bool, true, false, cond}
use mathlib.Core.List.{List}
use Prim.Native.Nat.{ℕ, ◌+◌, ◌≤◌, ◌<◌}
use native.Mathlib.Omega.{arith}
use borrow.Author.Tests.{le-leb, lt-leb}
use lib.Dec.{leb, eqb}
use lib.ListN.{length}
use Rattle.std.specs.Prelude.{Result, Ok, Err}
use Rattle.limits.specs.Limits.{slots_most}
use Rattle.limits.specs.Refusals.{number_of, Told, done, refused, refused_at}
use Rattle.limits.specs.declared.Refused.{Refused}
use Rattle.limits.specs.declared.Refusal.TheVariants.{WrongMark, NoRoom, AtTheEnd, NotARing}
use Rattle.turn.specs.declared.Slot.{Slot}
use Rattle.trail.specs.Trail.{room_for}
use Rattle.ring.specs.Ring.{is_ring}
use Rattle.ring.specs.Step.{slot_of, count_in, ring_after, trail_after}
use Rattle.ring.specs.Refusals.{marks_stand, step_told}
use Rattle.ring.specs.Promise.{StepPromise, ring_of, trail_of}
use Rattle.ring.specs.Inside.{Drawable, slot_told}
use Rattle.ring.specs.declared.Ring.{Ring}
use Rattle.ring.proofs.Checked.{Valid, ring_valid, owner_below}

-- ---- the five answers

module _ (r : Ring) (send : Bool) (receive bytes : ℕ) where
  pub no_ring : is_ring r (room_for bytes) ≡ false → step_told r send receive bytes ≡ refused (number_of NotARing) 0
  unfolding step_told
  no_ring a = rw a

  module _ (ring : is_ring r (room_for bytes) ≡ true) where
    pub wrong_mark : marks_stand r.n (slot_of r send receive) ≡ false → step_told r send receive bytes ≡ refused (number_of WrongMark) r.time
    unfolding step_told
    wrong_mark b = rw (ring, b)

    module _ (marks : marks_stand r.n (slot_of r send receive) ≡ true) where
      pub at_the_end : eqb r.time slots_most ≡ true → step_told r send receive bytes ≡ refused (number_of AtTheEnd) slots_most
      unfolding step_told
      at_the_end d = rw (ring, marks, d)

      pub no_room : eqb r.time slots_most ≡ false → leb (r.records + count_in r (slot_of r send receive)) (room_for bytes) ≡ false
          → step_told r send receive bytes ≡ refused (number_of NoRoom) r.time
      unfolding step_told
      no_room d e = rw (ring, marks, d, e)

      pub all_checked : eqb r.time slots_most ≡ false → leb (r.records + count_in r (slot_of r send receive)) (room_for bytes) ≡ true
          → step_told r send receive bytes ≡ done
      unfolding step_told
      all_checked d e = rw (ring, marks, d, e)

-- ---- what the code finds of them

-- what the checks leave to be told of a step: whether its records have room
abbrev told_then : Ring → ℕ → Result Slot Refused → Told
told_then r room (Ok c) = cond (leb (r.records + count_in r c) room) done (refused (number_of NoRoom) r.time)
told_then r room (Err why) = refused (number_of why.why) why.place

module _ (r : Ring) (send : Bool) (receive bytes : ℕ) where
  -- by what the three checks come to
  told_by : (a b d : Bool) → is_ring r (room_for bytes) ≡ a → marks_stand r.n (slot_of r send receive) ≡ b → eqb r.time slots_most ≡ d
      → step_told r send receive bytes ≡ told_then r (room_for bytes) (slot_told r send receive (room_for bytes))
  unfolding step_told slot_told
  told_by false b d p q s = rw p refl
  told_by true false d p q s = rw (p, q) refl
  told_by true true true p q s = rw (p, q, s) refl
  told_by true true false p q s = rw (p, q, s) refl

  told_is : {made : Result Slot Refused} → slot_told r send receive (room_for bytes) ≡ made → step_told r send receive bytes ≡ told_then r (room_for bytes) made
  told_is h = told_by _ _ _ refl refl refl ∙ ap (told_then r (room_for bytes)) h

-- what is known of the slot that the checks let through
pub record Through (r : Ring) (send : Bool) (receive room : ℕ) (c : Slot) : Type 0 where
  pub valid : Valid r room
  pub slot : c ≡ slot_of r send receive

through_by : (r : Ring) (send : Bool) (receive room : ℕ) (a b d : Bool) → is_ring r room ≡ a → marks_stand r.n (slot_of r send receive) ≡ b → eqb r.time slots_most ≡ d
    → (c : Slot) → slot_told r send receive room ≡ Ok c → Through r send receive room c
unfolding slot_told
through_by r send receive room false b d p q s c h = let e = rw p at h in let z : ◌≡◌ {A = ℕ} 0 1 = cc in absurd (omega arith)
through_by r send receive room true false d p q s c h = let e = rw (p, q) at h in let z : ◌≡◌ {A = ℕ} 0 1 = cc in absurd (omega arith)
through_by r send receive room true true true p q s c h = let e = rw (p, q, s) at h in let z : ◌≡◌ {A = ℕ} 0 1 = cc in absurd (omega arith)
through_by r send receive room true true false p q s c h =
    let e : ◌≡◌ {A = Result Slot Refused} (Ok (slot_of r send receive)) (Ok c) = rw (p, q, s) at h in
    let f : slot_of r send receive ≡ c = cc in
    record { valid = ring_valid r room p; slot = sym f }

pub let_through : {r : Ring} {send : Bool} {receive room : ℕ} {c : Slot} → Ok c ≡ slot_told r send receive room → Through r send receive room c
let_through {r} {send} {receive} {room} {c} h = through_by r send receive room _ _ _ refl refl refl c (sym h)

-- a slot that the checks let through can be drawn
pub drawable : {r : Ring} {send : Bool} {receive room : ℕ} {c : Slot} → Through r send receive room c → Drawable r c
drawable {r} {send} {receive} {room} t =
    record { seats = t.valid.most; owner = rw t.slot (omega (arith, owner_below r room t.valid, t.valid.most)) }

module _ (r : Ring) (send : Bool) (receive : ℕ) (t : List ℕ) where
  -- a refused step gives the ring as it came and leaves the trail
  pub refuse : {why : Refused} → Err why ≡ slot_told r send receive (room_for (length t)) → StepPromise r send receive t (record { answer = Err why; ring = r }) t
  unfolding ring_of trail_of
  refuse h = let s = told_is r send receive (length t) (sym h) in
      record { answer = sym s; ring = rw s refl; trail = rw s refl }

  module _ (c : Slot) (h : Ok c ≡ slot_told r send receive (room_for (length t))) where
    pub too_many : room_for (length t) < r.records + count_in r c → StepPromise r send receive t (record { answer = Err (refused_at NoRoom r.time); ring = r }) t
    unfolding ring_of trail_of
    too_many l =
        let s = told_is r send receive (length t) (sym h) in
        let f = lt-leb (r.records + count_in r c) (room_for (length t)) l in
        let e = s ∙ rw f refl in
        record { answer = sym e; ring = rw e refl; trail = rw e refl }

    pub take : {r' : Ring} {t' : List ℕ} → r.records + count_in r c ≤ room_for (length t) → r' ≡ ring_after r c → t' ≡ trail_after r c t
        → StepPromise r send receive t (record { answer = Ok tt; ring = r' }) t'
    unfolding ring_of trail_of
    take l x y =
        let s = told_is r send receive (length t) (sym h) in
        let f = le-leb (r.records + count_in r c) (room_for (length t)) l in
        let e = s ∙ rw f refl in
        let slot = (let_through h).slot in
        record { answer = sym e; ring = rw e (x ∙ ap (ring_after r) slot); trail = rw e (y ∙ ap (λ (z : Slot). trail_after r z t) slot) }
