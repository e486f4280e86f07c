-- What `page` promises: the text of a sheet's page, printed.
use Rattle.std.specs.Prelude.{List, Option, ℕ}
use Rattle.trail.specs.Trail.{empty_trail}
use Rattle.run.specs.Run.{run_of}
use Rattle.report.specs.Page.{page_of}
use Rattle.report.specs.Promise.{Prints, PrintsOrZero}

-- the page of a sheet: it is run with an empty trail that has all the room that a trail can have
unfoldable pub text_of : List ℕ → List ℕ
text_of sheet = page_of (run_of sheet empty_trail)

-- for any bytes and any buffer
abbrev pub PagePromise : (sheet page : List ℕ) → Option ℕ → List ℕ → Type 0
PagePromise sheet page r page' = Prints (text_of sheet) page r page'

-- the same for C, which has numbers alone
abbrev pub CallPromise : (sheet page : List ℕ) → ℕ → List ℕ → Type 0
CallPromise sheet page r page' = PrintsOrZero (text_of sheet) page r page'
