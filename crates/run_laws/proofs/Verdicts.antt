-- The verdict of a run is that on its last ring, and always on a ring. Assumes nothing.
use mathlib.Core.Path.{◌≡◌, sym, ap, ◌∙◌}
use mathlib.Core.Bool.{Bool, true, false, cond}
use mathlib.Core.List.{List}
use mathlib.Core.Logic.{⊎_elim}
use Prim.Native.Nat.{ℕ}
use native.Mathlib.Omega.{arith}
use lib.Dec.{ltb}
use Rattle.limits.specs.Limits.{room_most}
use Rattle.ring.specs.Ring.{is_ring}
use Rattle.terms.specs.Terms.{first_failing}
use Rattle.ring.specs.Refusals.{Finding, within, outside, unfit, verdict_found}
use Rattle.ring.specs.declared.Ring.{Ring}
use Rattle.ring.proofs.Checked.{valid_ring, valid_wider}
use Rattle.sheet.specs.Good.{GoodSheet}
use Rattle.sheet.specs.declared.Sheet.{Sheet}
use Rattle.run.specs.Outcome.{Heard, Outcome, ran, Result}
use Rattle.run.specs.Run.{run_sheet, run_of}
use Rattle.run.proofs.Reading.{read_is, run_offence}
use Rattle.run.proofs.Story.{bench_at, Ending, agreed, differed, stopped, run_story}
use Rattle.run.proofs.Fits.{last_stands}

-- ---- what is said

-- no run ends with a verdict on what is no ring
abbrev pub NeverUnfit : Type 0
NeverUnfit = (bytes t : List ℕ) (bus : Heard) (number place : ℕ) → (run_of bytes t).outcome ≡ ran bus (unfit number place) → ⊥

-- ---- the verdict of a run

-- the verdict of a run is that on its last ring
ending_verdict : (sheet : Sheet) (t : List ℕ) (k : ℕ) (o : Outcome) → Ending sheet t k o → (bus : Heard) (f : Finding) → o ≡ ran bus f
    → f ≡ verdict_found (bench_at sheet t k).ring
ending_verdict sheet t k o (agreed e) bus f q = cc
ending_verdict sheet t k o (differed l n) bus f q = cc
ending_verdict sheet t k o (stopped l a e) bus f q = let z : ◌≡◌ {A = ℕ} 0 1 = cc in absurd (omega arith)

-- a run that ends with a verdict is that of a good sheet
record OfSheet (bytes t : List ℕ) (f : Finding) : Type 0 where
  sheet : Sheet
  good : GoodSheet sheet
  same : run_of bytes t ≡ run_sheet sheet t
  verdict : f ≡ verdict_found (bench_at sheet t (run_story sheet t).steps).ring

of_sheet_lem : (bytes t : List ℕ) (bus : Heard) (f : Finding) → (run_of bytes t).outcome ≡ ran bus f → OfSheet bytes t f
of_sheet_lem bytes t bus f e =
    ⊎_elim
    (λ r.
    let s = run_story r.0 t in
    record {
      sheet = r.0;
      good = r.1;
      same = r.2 t;
      verdict = ending_verdict r.0 t s.steps _ s.ending bus f (sym (ap (λ (y : Result). y.outcome) (r.2 t)) ∙ e);
    })
    (λ r. let q = sym (ap (λ (y : Result). y.outcome) (run_offence bytes t r.2)) ∙ e in let z : ◌≡◌ {A = ℕ} 0 1 = cc in absurd (omega arith))
    (read_is bytes)

pub run-verdict : (bytes t : List ℕ) (bus : Heard) (f : Finding) → (run_of bytes t).outcome ≡ ran bus f → f ≡ verdict_found (run_of bytes t).ring
run-verdict bytes t bus f e =
    let j = of_sheet_lem bytes t bus f e in
    j.verdict ∙ ap verdict_found (sym (run_story j.sheet t).ring) ∙ ap (λ (y : Result). verdict_found y.ring) (sym j.same)

verdict_fit : (r : Ring) (number place : ℕ) → is_ring r room_most ≡ true → unfit number place ≡ verdict_found r → ⊥
unfolding verdict_found
verdict_fit r number place v e = go (ltb (first_failing r.n r.faults r.time) r.time) (rw v at e)
  where
    go : (b : Bool) → unfit number place ≡ cond b (outside (first_failing r.n r.faults r.time)) within → ⊥
    go true q = let z : ◌≡◌ {A = ℕ} 0 1 = cc in omega arith
    go false q = let z : ◌≡◌ {A = ℕ} 0 1 = cc in omega arith

pub never_unfit : NeverUnfit
never_unfit bytes t bus number place e =
    let j = of_sheet_lem bytes t bus (unfit number place) e in
    let r = (bench_at j.sheet t (run_story j.sheet t).steps).ring in
    verdict_fit r number place (valid_ring r room_most (valid_wider r (omega arith) (last_stands j.sheet j.good t).valid)) j.verdict
