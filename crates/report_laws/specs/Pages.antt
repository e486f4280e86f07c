-- What stands on the page of a sheet, whatever its bytes: its refusal alone, or all three sections.
use Rattle.std.specs.Prelude.{List, ◌++◌, ◌≡◌, ℕ}
use Rattle.limits.specs.Refusals.{number_of}
use Rattle.limits.specs.declared.Refusal.{Refusal}
use Rattle.trail.specs.Trail.{empty_trail}
use Rattle.ring.specs.Refusals.{Finding}
use Rattle.sheet_lines.specs.Found.{offence}
use Rattle.sheet.specs.Sheets.{sheet_in}
use Rattle.run.specs.Outcome.{Heard, ran}
use Rattle.run.specs.Run.{run_of}
use Rattle.report.specs.Page.{bus_line, faults_line, records_and_seats, verdict, refused_line}
use Rattle.sheet_page.specs.Promise.{text_of}

pub data Stands (sheet : List ℕ) : Type 0 where
  -- the sheet is refused, and the page says so with its number and place
  refusal : (why : Refusal) (place : ℕ) → sheet_in sheet ≡ offence why place → text_of sheet ≡ refused_line (number_of why) place → Stands sheet
  -- it is run, and records, seats and both verdicts stand there
  whole : (bus : Heard) (faults : Finding) → (run_of sheet empty_trail).outcome ≡ ran bus faults
      → text_of sheet ≡ records_and_seats (run_of sheet empty_trail) ++ verdict (bus_line bus) (faults_line faults) → Stands sheet
