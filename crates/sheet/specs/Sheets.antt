-- Run sheets, document 01: what a sheet's bytes are read as, and what is promised of a reading.
use Rattle.std.specs.Prelude.{ℕ, ◌≡◌, cond, List, length, replicate, ltb}
use Rattle.limits.specs.Limits.{seats_least, seats_most, marks_most, slots_most}
use Rattle.limits.specs.Refusals.{number_of, Told, done, refused, tells}
use Rattle.limits.specs.declared.Refusal.TheVariants.{BytesAfter}
use Rattle.sheet_lines.specs.Found.{Found, found, offence, and_then}
use Rattle.sheet.specs.Entries.{count_line, entries_at, module_line, slot_line}
use Rattle.sheet.specs.Marks.{no_mark, mark_line}
use Rattle.sheet.specs.declared.Mark.{Mark}
use Rattle.sheet.specs.declared.Sheet.{Sheet}
use Rattle.sheet.specs.declared.Reading.{Reading}

unfoldable pub no_modules : List ℕ
no_modules = replicate seats_most 0

unfoldable pub no_marks : List Mark
no_marks = replicate marks_most no_mark

unfoldable pub no_slots : List ℕ
no_slots = replicate slots_most 0

-- each count with its entries
abbrev pub sheet_from : ℕ → List ℕ → ℕ → List Mark → ℕ → List ℕ → Sheet
sheet_from n modules mark_count marks slot_count slots =
    record { n = n; modules = modules; mark_count = mark_count; marks = marks; slot_count = slot_count; slots = slots }

-- no seats, marks or slots, and all entries zero
abbrev pub no_sheet : Sheet
no_sheet = sheet_from 0 no_modules 0 no_marks 0 no_slots

-- ring, marks and slots in this order, each after its count, and no bytes after them
unfoldable pub sheet_in : List ℕ → Found Sheet
sheet_in bytes =
    and_then (count_line seats_least seats_most bytes 0)
    (λ n at. and_then (entries_at (module_line bytes) no_modules n at)
    (λ modules at. and_then (count_line 0 marks_most bytes at)
    (λ mark_count at. and_then (entries_at (mark_line n bytes) no_marks mark_count at)
    (λ marks at. and_then (count_line 0 slots_most bytes at)
    (λ slot_count at. and_then (entries_at (slot_line bytes) no_slots slot_count at)
    (λ slots end.
    cond (ltb end (length bytes)) (offence BytesAfter end) (found (sheet_from n modules mark_count marks slot_count slots) end)))))))

-- ---- what is promised of a reading

-- what the answer is to say
abbrev pub read_told : Found Sheet → Told
read_told (found sheet end) = done
read_told (offence why place) = refused (number_of why) place

-- and which sheet is to stand beside it
abbrev pub sheet_of : Found Sheet → Sheet
sheet_of (found sheet end) = sheet
sheet_of (offence why place) = no_sheet

pub record ReadPromise (bytes : List ℕ) (r : Reading) : Type 0 where
  pub answer : tells r.answer ≡ read_told (sheet_in bytes)
  pub sheet : r.sheet ≡ sheet_of (sheet_in bytes)
