-- The example of document 01 printed whole from its sheet, by computation; and the lines that it does not have.
-- Assumes nothing.
use mathlib.Core.Path.{◌≡◌, refl}
use mathlib.Core.List.{[], ◌∷◌, ◌++◌}
use lib.Count.{ones_in}
use Rattle.ring.specs.Ring.{fresh_ring, zero_ring, is_ring, every_seat_stands}
use Rattle.turn.specs.Turn.{turn_of}
use Rattle.trail.specs.Trail.{empty_trail}
use Rattle.terms.specs.Terms.{terms_hold, first_failing}
use Rattle.ring.specs.Refusals.{outside, step_told, verdict_found}
use Rattle.ring.specs.Promise.{ring_of, trail_of}
use Rattle.sheet_lines.specs.Bytes.{byte_at, digits_at, number_at}
use Rattle.sheet_lines.specs.Lines.{end_at, ended, line_at, spaced_at}
use Rattle.sheet.specs.Entries.{lines_at, is_new, module_line, slot_line}
use Rattle.sheet.specs.Marks.{mark_offence, fields_at, mark_line}
use Rattle.sheet.specs.Sheets.{no_modules, no_marks, no_slots, sheet_in}
use Rattle.run.specs.Marks.{marks_at}
use Rattle.run.specs.Outcome.{differs}
use Rattle.run.specs.Run.{run_from, run_of}
use Rattle.text.specs.Decimal.{digits_in, decimal}
use Rattle.report.specs.Page.{record_line, seat_line, bus_line, faults_line, refused_line, verdict, page_of}
use Rattle.sheet_page.specs.Promise.{text_of}
use Rattle.report_laws.specs.Example.{example_sheet, example_page}

pub example_printed : text_of example_sheet ≡ example_page
unfolding text_of empty_trail page_of example_sheet example_page record_line seat_line decimal digits_in ones_in run_of run_from marks_at sheet_in no_modules no_marks no_slots lines_at module_line mark_line slot_line is_new line_at ended end_at number_at digits_at byte_at fields_at spaced_at mark_offence step_told ring_of trail_of verdict_found is_ring every_seat_stands fresh_ring zero_ring turn_of terms_hold first_failing
example_printed = refl

-- 2, `bus differs 307`, `faults outside 4`
pub differs_printed : verdict (bus_line (differs 307)) (faults_line (outside 4))
    ≡ (50 ∷ 10 ∷ [])
    ++ (98 ∷ 117 ∷ 115 ∷ 32 ∷ 100 ∷ 105 ∷ 102 ∷ 102 ∷ 101 ∷ 114 ∷ 115 ∷ 32 ∷ 51 ∷ 48 ∷ 55 ∷ 10 ∷ [])
    ++ (102 ∷ 97 ∷ 117 ∷ 108 ∷ 116 ∷ 115 ∷ 32 ∷ 111 ∷ 117 ∷ 116 ∷ 115 ∷ 105 ∷ 100 ∷ 101 ∷ 32 ∷ 52 ∷ 10 ∷ [])
unfolding decimal digits_in
differs_printed = refl

-- `refused 10 16384`
pub refused_printed : refused_line 10 16384
    ≡ 114 ∷ 101 ∷ 102 ∷ 117 ∷ 115 ∷ 101 ∷ 100 ∷ 32 ∷ 49 ∷ 48 ∷ 32 ∷ 49 ∷ 54 ∷ 51 ∷ 56 ∷ 52 ∷ 10 ∷ []
unfolding decimal digits_in
refused_printed = refl
