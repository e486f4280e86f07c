-- What the run of a sheet leaves can be printed, so its three sections stand on the page. Assumes nothing.
use mathlib.Core.Path.{◌≡◌}
use mathlib.Core.Bool.{true}
use mathlib.Core.List.{List, ◌++◌}
use Prim.Native.Nat.{ℕ, ◌≤◌}
use native.Mathlib.Omega.{arith}
use lib.ListN.{length}
use borrow.Author.Tests.{le-leb}
use Rattle.lists.proofs.Tests.{and_of}
use Rattle.limits.specs.Limits.{seats_most}
use Rattle.trail.specs.Trail.{room_for}
use Rattle.ring.specs.Refusals.{Finding}
use Rattle.run.specs.Outcome.{Heard}
use Rattle.run.specs.Run.{run_of}
use Rattle.run.proofs.Fits.{run_fits}
use Rattle.report.specs.Page.{bus_line, faults_line, records_and_seats, verdict, printable, sections}

pub run-printable : (sheet t : List ℕ) → printable (run_of sheet t) ≡ true
run-printable sheet t =
    let x = run_of sheet t in
    let f = run_fits sheet t in
    let room : x.ring.records ≤ room_for (length x.trail) = omega (arith, f.few, f.bytes) in
    and_of (le-leb x.ring.n seats_most f.seats) (le-leb x.ring.records (room_for (length x.trail)) room)

-- so the sections of a run with its verdicts are all there
pub run-sections : (sheet t : List ℕ) (bus : Heard) (f : Finding)
    → sections (run_of sheet t) bus f ≡ records_and_seats (run_of sheet t) ++ verdict (bus_line bus) (faults_line f)
run-sections sheet t bus f = rw (run-printable sheet t)
