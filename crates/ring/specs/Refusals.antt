-- What is refused, in the order of the checks, and what a verdict says in document 01's numbers.
use Rattle.std.specs.Prelude.{Bool, Result, Ok, Err, cond, not, ◌&&◌, ℕ, ◌+◌, leb, ltb, eqb}
use Rattle.limits.specs.Limits.{slots_most, room_most, seats_stand}
use Rattle.limits.specs.Refusals.{number_of, Told, done, refused}
use Rattle.limits.specs.declared.Refused.{Refused}
use Rattle.limits.specs.declared.Refusal.TheVariants.{WrongMark, NoRoom, AtTheEnd, NotARing}
use Rattle.seats.specs.Sets.{has_seat, full_set}
use Rattle.terms.specs.Terms.{first_failing}
use Rattle.trail.specs.Trail.{room_for}
use Rattle.turn.specs.declared.Slot.{Slot}
use Rattle.ring.specs.Ring.{is_ring}
use Rattle.ring.specs.Step.{slot_of, count_in}
use Rattle.ring.specs.declared.Ring.{Ring}
use Rattle.ring.specs.declared.Verdict.{Verdict}
use Rattle.ring.specs.declared.Verdict.TheVariants.{Within, Outside}

-- ---- what a verdict says

-- within, outside T, or refused
pub data Finding : Type 0 where
  within : Finding
  outside : ℕ → Finding
  unfit : (number place : ℕ) → Finding

abbrev pub found : Result Verdict Refused → Finding
found (Ok Within) = within
found (Ok (Outside t)) = outside t
found (Err r) = unfit (number_of r.why) r.place

-- ---- what is asked is answered so

-- a fresh ring of n seats
abbrev pub fresh_told : ℕ → Told
fresh_told n = cond (seats_stand n) done (refused (number_of NotARing) 0)

-- no receive mark for the owner or for no seat
abbrev pub marks_stand : ℕ → Slot → Bool
marks_stand n c = leb c.receive (full_set n) && not (has_seat c.receive c.owner)

-- a step with a trail of so many bytes: 10, 6, 9, 8
unfoldable pub step_told : Ring → Bool → ℕ → ℕ → Told
step_told r send receive bytes =
    cond (is_ring r (room_for bytes))
    (cond (marks_stand r.n (slot_of r send receive))
    (cond (eqb r.time slots_most)
    (refused (number_of AtTheEnd) slots_most)
    (cond (leb (r.records + count_in r (slot_of r send receive)) (room_for bytes)) done (refused (number_of NoRoom) r.time)))
    (refused (number_of WrongMark) r.time))
    (refused (number_of NotARing) 0)

-- the verdict on a ring, whose room is 1,024 as no buffer is lent
unfoldable pub verdict_found : Ring → Finding
verdict_found r =
    let first = first_failing r.n r.faults r.time in
    cond (is_ring r room_most)
    (cond (ltb first r.time) (outside first) within)
    (unfit (number_of NotARing) 0)
