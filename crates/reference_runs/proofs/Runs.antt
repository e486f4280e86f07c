-- Every run of the table comes out as document 01 states it: by computation, over the engine's and the
-- reader's own definitions. Assumes nothing.
use mathlib.Core.Path.{◌≡◌, refl}
use mathlib.Core.List.{map}
use Rattle.ring.specs.Ring.{zero_ring, fresh_ring, every_seat_stands, is_ring}
use Rattle.turn.specs.Turn.{turn_of}
use Rattle.terms.specs.Terms.{terms_hold, first_failing}
use Rattle.ring.specs.Refusals.{step_told, verdict_found}
use Rattle.ring.specs.Promise.{ring_of, trail_of}
use Rattle.sheet_lines.specs.Bytes.{byte_at, digits_at, number_at}
use Rattle.sheet_lines.specs.Lines.{end_at, ended, line_at, spaced_at}
use Rattle.sheet.specs.Entries.{lines_at, is_new, module_line, slot_line}
use Rattle.sheet.specs.Marks.{mark_offence, fields_at, mark_line}
use Rattle.sheet.specs.Sheets.{no_modules, no_marks, no_slots, sheet_in}
use Rattle.steps.specs.Run.{run_on}
use Rattle.reference_runs.specs.Reply.{held_by, reply_on, reply_to}
use Rattle.reference_runs.specs.Runs.{Run, runs}

pub as_stated : map (λ (r : Run). reply_to r.asked) runs ≡ map (λ (r : Run). r.stated) runs
unfolding runs reply_to reply_on held_by run_on ring_of trail_of step_told verdict_found first_failing terms_hold turn_of is_ring every_seat_stands fresh_ring zero_ring sheet_in lines_at line_at ended end_at module_line is_new slot_line mark_line fields_at spaced_at mark_offence number_at digits_at byte_at no_modules no_marks no_slots
as_stated = refl
