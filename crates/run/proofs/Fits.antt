-- What a run leaves fits: at most 32 seats, at most 1,024 records, all of them in the trail. Assumes nothing.
use mathlib.Core.Path.{◌≡◌, refl, sym, ap, ◌∙◌, subst}
use mathlib.Core.List.{List}
use mathlib.Core.Logic.{⊎_elim}
use Prim.Native.Nat.{ℕ, ◌*◌, ◌≤◌}
use native.Mathlib.Omega.{arith}
use lib.ListN.{length}
use Rattle.limits.specs.Limits.{seats_most, room_most}
use Rattle.limits.specs.Refusals.{number_of}
use Rattle.lists.specs.Counted.{tab}
use Rattle.limits.specs.declared.Refusal.{Refusal}
use Rattle.ring.specs.Ring.{zero_ring}
use Rattle.trail.specs.Trail.{width}
use Rattle.ring.specs.declared.Ring.{Ring}
use Rattle.trail.proofs.RecordLaws.{room_bytes}
use Rattle.steps.specs.Run.{start}
use Rattle.steps.proofs.Reached.{Stands, reached_stands, run_reached}
use Rattle.sheet.specs.Good.{GoodSheet}
use Rattle.sheet.specs.Sheets.{no_sheet}
use Rattle.sheet.specs.declared.Sheet.{Sheet}
use Rattle.run.specs.Outcome.{refused, Result}
use Rattle.run.specs.Marks.{marks_at}
use Rattle.run.specs.Run.{run_sheet, run_of}
use Rattle.run.proofs.Reading.{read_is, run_offence}
use Rattle.run.proofs.Story.{bench_at, run_story}

-- ---- what is said

pub record Fits (x : Result) : Type 0 where
  pub seats : x.ring.n ≤ seats_most
  pub few : x.ring.records ≤ room_most
  pub bytes : width * x.ring.records ≤ length x.trail

-- ---- the last ring of a run

module _ (sheet : Sheet) (good : GoodSheet sheet) (t : List ℕ) where
  pub last_stands : let s = run_story sheet t in Stands sheet.n (length t) (bench_at sheet t s.steps)
  last_stands =
      let s = run_story sheet t in
      reached_stands sheet.n t good.seats.0 good.seats.1 (run_reached (tab s.steps (marks_at sheet)) start)

  sheet_fits : Fits (run_sheet sheet t)
  sheet_fits =
      let s = run_story sheet t in
      let w = last_stands in
      let v = w.valid in
      let n = ap (λ (r : Ring). r.n) s.ring in
      let k = ap (λ (r : Ring). r.records) s.ring in
      let l = ap length s.written ∙ w.kept in
      let f = v.fits in
      let m = v.most in
      record { seats = omega arith; few = omega arith; bytes = omega (arith, room_bytes _ (length t) f) }

zero_counts : (zero_ring.n ≡ 0) × (zero_ring.records ≡ 0)
unfolding zero_ring
zero_counts = (refl, refl)

pub run_fits : (bytes t : List ℕ) → Fits (run_of bytes t)
run_fits bytes t =
    ⊎_elim
    (λ r. subst Fits (sym (r.2 t)) (sheet_fits r.0 r.1 t))
    (λ r. subst Fits (sym (run_offence bytes t r.2)) (none r.0 r.1))
    (read_is bytes)
  where
    none : (why : Refusal) (place : ℕ) → Fits (record { outcome = refused (number_of why) place; ring = zero_ring; modules = no_sheet.modules; trail = t })
    none why place = let z = zero_counts in record { seats = omega arith; few = omega arith; bytes = omega arith }
