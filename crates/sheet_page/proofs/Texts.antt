-- What is printed of the run of a sheet is the page of the sheet. Assumes nothing.
use mathlib.Core.Path.{◌≡◌, ap, ◌∙◌}
use mathlib.Core.List.{List}
use Prim.Native.Nat.{ℕ}
use Rattle.trail.specs.Trail.{empty_trail}
use Rattle.run.specs.Run.{run_of, RunPromise}
use Rattle.run.specs.declared.Ran.{Ran}
use Rattle.report.specs.Page.{page_of, result_of}
use Rattle.sheet_page.specs.Promise.{text_of}

module _ {sheet t : List ℕ} {r : Ran} {t' : List ℕ} (p : RunPromise sheet t r t') where
  left : result_of r t' ≡ run_of sheet t
  left = λ i. record { outcome = p.answer i; ring = p.ring i; modules = p.modules i; trail = p.trail i }

  pub run_text : t ≡ empty_trail → page_of (result_of r t') ≡ text_of sheet
  unfolding text_of
  run_text e = ap page_of (left ∙ ap (run_of sheet) e)
