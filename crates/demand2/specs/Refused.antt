-- The refusals of a step, in document 01's words: when each is given, and in which order the checks stand.
use Rattle.std.specs.Prelude.{Bool, true, ◌≡◌, ◌⊎◌, ℕ, ◌+◌, ◌≤◌, ◌<◌}
use Rattle.limits.specs.Limits.{slots_most}
use Rattle.limits.specs.Refusals.{number_of, Told, done, refused}
use Rattle.limits.specs.declared.Refusal.TheVariants as reasons
use Rattle.seats.specs.Sets.{has_seat}
use Rattle.ring.specs.Ring.{owner_of}
use Rattle.ring.specs.Step.{slot_of, count_in}
use Rattle.trail.specs.Trail.{room_for}
use Rattle.ring.specs.declared.Ring.{Ring}
use Rattle.ring.specs.Valid.{Valid}

-- a receive mark for the owner or for no seat
abbrev pub WrongMark : Ring → ℕ → Type 0
WrongMark r receive = (q : ℕ) × (has_seat receive q ≡ true) × ((q ≡ owner_of r) ⊎ (r.n ≤ q))

-- the records of this step do not all fit the room left
abbrev pub NoRoom : Ring → Bool → ℕ → ℕ → Type 0
NoRoom r send receive bytes = room_for bytes < r.records + count_in r (slot_of r send receive)

-- a step with a trail of so many bytes is answered so. Checked in the order 10, 6, 9, 8
pub data Answered (r : Ring) (send : Bool) (receive bytes : ℕ) : Told → Type 0 where
  not_a_ring : (Valid r (room_for bytes) → ⊥) → Answered r send receive bytes (refused (number_of reasons.NotARing) 0)
  wrong_mark : Valid r (room_for bytes) → WrongMark r receive → Answered r send receive bytes (refused (number_of reasons.WrongMark) r.time)
  at_the_end : Valid r (room_for bytes) → (WrongMark r receive → ⊥) → r.time ≡ slots_most → Answered r send receive bytes (refused (number_of reasons.AtTheEnd) slots_most)
  no_room : Valid r (room_for bytes) → (WrongMark r receive → ⊥) → r.time < slots_most → NoRoom r send receive bytes
      → Answered r send receive bytes (refused (number_of reasons.NoRoom) r.time)
  taken : Valid r (room_for bytes) → (WrongMark r receive → ⊥) → r.time < slots_most → (NoRoom r send receive bytes → ⊥)
      → Answered r send receive bytes done
