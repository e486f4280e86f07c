-- A page is a refusal's line only where its sheet is refused. Assumes nothing.
use mathlib.Core.Path.{◌≡◌, refl, ap}
use mathlib.Core.List.{List}
use Prim.Native.Nat.{ℕ, ◌*◌, ◌≤◌}
use native.Mathlib.Omega.{arith}
use lib.ListN.{length, length-replicate}
use Rattle.limits.specs.Limits.{room_most}
use Rattle.trail.specs.Trail.{width, empty_trail}
use Rattle.ring.specs.Refusals.{within, outside, unfit}
use Rattle.run.specs.Outcome.{Outcome, ran, refused}
use Rattle.run.specs.Run.{run_of}
use Rattle.run_laws.proofs.Verdicts.{never_unfit}
use Rattle.demand2_sheets.proofs.Refused.{only_the_reader}
use Rattle.report.specs.Page.{page_of, refused_line}
use Rattle.sheet_page.specs.Promise.{text_of}
use Rattle.report_laws.specs.Pages as pages
use Rattle.report_laws.specs.Pages.{Stands}
use Rattle.report_laws.proofs.Printable.{run-sections}

-- an empty trail has all the room that a trail can have
all_room : width * room_most ≤ length empty_trail
unfolding empty_trail
all_room = omega (arith, length-replicate {A = ℕ} (width * room_most) 0)

pub page_stands : (sheet : List ℕ) → Stands sheet
unfolding text_of page_of
page_stands sheet = go (run_of sheet empty_trail).outcome refl
  where
    go : (o : Outcome) → (run_of sheet empty_trail).outcome ≡ o → Stands sheet
    go (ran bus within) e = pages.whole bus within e (rw e (run-sections sheet empty_trail bus within))
    go (ran bus (outside t)) e = pages.whole bus (outside t) e (rw e (run-sections sheet empty_trail bus (outside t)))
    go (ran bus (unfit number place)) e = absurd (never_unfit sheet empty_trail bus number place e)
    go (refused number place) e =
        let r = only_the_reader sheet empty_trail all_room number place e in
        pages.refusal r.0 place r.2 (rw e (ap (λ (k : ℕ). refused_line k place) r.1))
