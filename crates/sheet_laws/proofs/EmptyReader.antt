-- Neither empty program keeps the promise of `read` (specs/EmptyReader.antt): the empty sheet is refused, and
-- lines 2, 7, 8, 0, 0 are read.
use mathlib.Core.List.{List, [], ◌∷◌}
use mathlib.Core.Path.{◌≡◌, refl, sym, ap, ◌∙◌}
use Prim.Native.Nat.{ℕ}
use Rattle.limits.specs.Refusals.{done, refused, tells}
use Rattle.sheet_lines.specs.Bytes.{byte_at, digits_at, number_at}
use Rattle.sheet_lines.specs.Lines.{end_at, ended, line_at, spaced_at}
use Rattle.sheet.specs.Entries.{lines_at, is_new, module_line, slot_line}
use Rattle.sheet.specs.Marks.{mark_offence, fields_at, mark_line}
use Rattle.sheet.specs.Sheets.{no_modules, no_marks, no_slots, sheet_in, read_told}
use Rattle.sheet.specs.declared.Reading.{Reading}
use Rattle.limits.proofs.Refusals.{not_done}
use Rattle.sheet_laws.specs.EmptyReader.{Reader, Keeps, RefusesAll, Constant}

-- ---- what is said

abbrev pub ShutOut : (Reader → Type 0) → Type 0
ShutOut Kind = (f : Reader) → Kind f → Keeps f → ⊥

-- ---- the two sheets at which they are caught

good : List ℕ
good = 50 ∷ 10 ∷ 55 ∷ 10 ∷ 56 ∷ 10 ∷ 48 ∷ 10 ∷ 48 ∷ 10 ∷ []

good_read : read_told (sheet_in good) ≡ done
unfolding good sheet_in lines_at module_line is_new slot_line mark_line fields_at spaced_at mark_offence line_at ended end_at number_at digits_at byte_at no_modules no_marks no_slots
good_read = refl

empty_refused : read_told (sheet_in []) ≡ refused 1 0
unfolding sheet_in line_at ended end_at number_at digits_at byte_at no_modules
empty_refused = refl

-- ---- the theorems

pub refuses_all_read : ShutOut RefusesAll
refuses_all_read f all keeps =
    let x = all good in
    not_done (sym x.2 ∙ (keeps good).answer ∙ good_read)

pub constant_read : ShutOut Constant
constant_read f (r, same) keeps =
    not_done
    (sym ((keeps []).answer ∙ empty_refused)
    ∙ ap (λ (x : Reading). tells x.answer) (same [] ∙ sym (same good))
    ∙ (keeps good).answer ∙ good_read)
