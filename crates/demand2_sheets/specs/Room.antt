-- The trail that the run program lends never lacks room, and no step of a run is refused with it.
use Rattle.std.specs.Prelude.{true, List, ◌≡◌, ℕ, ◌*◌, ◌≤◌, length}
use Rattle.limits.specs.Limits.{room_most}
use Rattle.limits.specs.Refusals.{number_of, of_sheet}
use Rattle.limits.specs.declared.Refusal.{Refusal}
use Rattle.limits.specs.declared.Refusal.TheVariants.{NoRoom}
use Rattle.trail.specs.Trail.{width}
use Rattle.sheet_lines.specs.Found.{offence}
use Rattle.sheet.specs.Sheets.{sheet_in}
use Rattle.run.specs.Outcome.{refused}
use Rattle.run.specs.Run.{run_of}

-- a trail with all the room that a trail can have
abbrev pub AllRoom : List ℕ → Type 0
AllRoom t = width * room_most ≤ length t

-- whatever the bytes, a run with such a trail is refused only where its sheet is: with the reader's number
-- and place
abbrev pub OnlyTheReader : Type 0
OnlyTheReader =
    (bytes t : List ℕ) → AllRoom t → (number place : ℕ) → (run_of bytes t).outcome ≡ refused number place
    → (why : Refusal) × (number ≡ number_of why) × (sheet_in bytes ≡ offence why place)

-- so with a number that a reader gives
abbrev pub OfTheReader : Type 0
OfTheReader =
    (bytes t : List ℕ) → AllRoom t → (number place : ℕ) → (run_of bytes t).outcome ≡ refused number place
    → (why : Refusal) × (number ≡ number_of why) × (of_sheet why ≡ true)

-- and never for want of room
abbrev pub NeverWithoutRoom : Type 0
NeverWithoutRoom = (bytes t : List ℕ) → AllRoom t → (place : ℕ) → (run_of bytes t).outcome ≡ refused (number_of NoRoom) place → ⊥
