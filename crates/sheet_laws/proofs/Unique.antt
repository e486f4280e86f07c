-- No two answers keep the promise of the reader, nor that of what it reads from a line. Assumes nothing.
use mathlib.Core.Path.{◌≡◌, sym, ap, ap₂, ◌∙◌}
use mathlib.Core.List.{List}
use Prim.Native.Nat.{ℕ}
use Rattle.std.proofs.Common.{Result, Ok, Err}
use Rattle.std.specs.Prelude.{⊤}
use Rattle.limits.specs.Refusals.{refused_at}
use Rattle.limits.specs.declared.Refused.{Refused}
use Rattle.limits.proofs.Refusals.{one_told}
use Rattle.sheet_lines.specs.Pieces.{found_of}
use Rattle.sheet_lines.proofs.ByteLaws.{not_both}
use Rattle.sheet.specs.Sheets.{ReadPromise}
use Rattle.sheet.specs.declared.Sheet.{Sheet}
use Rattle.sheet.specs.declared.Reading.{Reading}

-- ---- a piece of a line

-- a piece is what it says, so no two keep the promise of `line`, `spaced`, `kind` or `heard`
pub one_piece : {A : Type 0} (a b : Result (A × ℕ) Refused) → found_of a ≡ found_of b → a ≡ b
one_piece {A} (Ok a) (Ok b) e =
    let x : a.0 ≡ b.0 = cc in
    let y : a.1 ≡ b.1 = cc in
    ap₂ (λ (v : A) (n : ℕ). Ok (v, n)) x y
one_piece (Ok a) (Err r) e = not_both r.why (sym e)
one_piece (Err r) (Ok a) e = not_both r.why e
one_piece (Err r) (Err s) e =
    let x : r.why ≡ s.why = cc in
    let y : r.place ≡ s.place = cc in
    ap Err (ap₂ refused_at x y)

-- ---- a reading

pub one_reading : (bytes : List ℕ) (a b : Reading) → ReadPromise bytes a → ReadPromise bytes b → a ≡ b
one_reading bytes a b p q =
    let x = one_told a.answer b.answer (p.answer ∙ sym q.answer) in
    let y : a.sheet ≡ b.sheet = p.sheet ∙ sym q.sheet in
    ap₂ (λ (answer : Result ⊤ Refused) (sheet : Sheet). record { answer = answer; sheet = sheet }) x y
