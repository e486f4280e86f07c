-- The two empty programs of document 01 that can stand in the place of `read`: one refuses every sheet, one
-- has a constant result.
use Rattle.std.specs.Prelude.{List, ◌≡◌, ℕ}
use Rattle.limits.specs.Refusals.{refused, tells}
use Rattle.sheet.specs.Sheets.{ReadPromise}
use Rattle.sheet.specs.declared.Reading.{Reading}

-- a program in the place of read
abbrev pub Reader : Type 0
Reader = List ℕ → Reading

abbrev pub Keeps : Reader → Type 0
Keeps f = (bytes : List ℕ) → ReadPromise bytes (f bytes)

abbrev pub RefusesAll : Reader → Type 0
RefusesAll f = (bytes : List ℕ) → (number : ℕ) × (place : ℕ) × (tells (f bytes).answer ≡ refused number place)

abbrev pub Constant : Reader → Type 0
Constant f = (r : Reading) × ((bytes : List ℕ) → f bytes ≡ r)
