-- Demand 3 of the run of a sheet: what stands behind a page that says `faults within`.
use Rattle.std.specs.Prelude.{List, ◌≡◌, ℕ, ◌≤◌, ◌<◌}
use Rattle.limits.specs.Refusals.{done}
use Rattle.ring.specs.Refusals.{within}
use Rattle.steps.specs.Run.{told_on}
use Rattle.sheet_lines.specs.Found.{found}
use Rattle.sheet.specs.Sheets.{sheet_in}
use Rattle.sheet.specs.declared.Sheet.{Sheet}
use Rattle.run.specs.Marks.{marks_at}
use Rattle.run.specs.Along.{bench_at}
use Rattle.run.specs.Outcome.{Heard, ran}
use Rattle.run.specs.Run.{run_of}
use Rattle.demand3.specs.Demand.{Agreement}

-- the bytes are a sheet's, its run takes so many steps, and before and after each of them the ring is in
-- agreement
pub record AgreedThroughout (bytes trail : List ℕ) : Type 0 where
  pub sheet : Sheet
  pub end : ℕ
  pub read : sheet_in bytes ≡ found sheet end
  pub steps : ℕ
  pub taken : (k : ℕ) → k < steps → told_on (marks_at sheet k) (bench_at sheet trail k) ≡ done
  pub last : (run_of bytes trail).ring ≡ (bench_at sheet trail steps).ring
  pub agreed : (k : ℕ) → k ≤ steps → Agreement (bench_at sheet trail k).ring

-- whatever the bytes and the trail, and whatever the bus showed: a run that ends with the verdict `within`
abbrev pub Demand3OfSheets : Type 0
Demand3OfSheets = (bytes trail : List ℕ) (bus : Heard) → (run_of bytes trail).outcome ≡ ran bus within → AgreedThroughout bytes trail
