-- What the step's own functions promise: its checks and its two passes over the seats. A reader of the public
-- promises needs none of it.
use Rattle.std.specs.Prelude.{Bool, Result, Ok, Err, cond, ℕ, ◌≤◌, ◌<◌, eqb}
use Rattle.limits.specs.Limits.{seats_most, slots_most}
use Rattle.limits.specs.Refusals.{refused_at}
use Rattle.limits.specs.declared.Refused.{Refused}
use Rattle.limits.specs.declared.Refusal.TheVariants.{WrongMark, AtTheEnd, NotARing}
use Rattle.turn.specs.declared.Slot.{Slot}
use Rattle.ring.specs.Ring.{is_ring, drawn_to}
use Rattle.ring.specs.Step.{slot_of, turn_at}
use Rattle.ring.specs.Refusals.{marks_stand}
use Rattle.ring.specs.declared.Ring.{Ring}

-- the step's slot, with so much room, or the first of the refusals 10, 6 and 9
unfoldable pub slot_told : Ring → Bool → ℕ → ℕ → Result Slot Refused
slot_told r send receive room =
    cond (is_ring r room)
    (cond (marks_stand r.n (slot_of r send receive))
    (cond (eqb r.time slots_most) (Err (refused_at AtTheEnd slots_most)) (Ok (slot_of r send receive)))
    (Err (refused_at WrongMark r.time)))
    (Err (refused_at NotARing 0))

-- a ring whose seats can be drawn in a slot: what the check of refusal 10 leaves
pub record Drawable (r : Ring) (c : Slot) : Type 0 where
  pub seats : r.n ≤ seats_most
  pub owner : c.owner < seats_most

-- every seat of it after its turn
abbrev pub drawn_of : Ring → Slot → Ring
drawn_of r c = drawn_to r.n r (λ p. (turn_at r c p).seat)
