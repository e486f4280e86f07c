-- `slot_lines`: the lines are those of slots. Assumes nothing.
use Rattle.sheet.specs.Entries.{slot_line}
use Rattle.sheet.proofs.slots.slot_lines.Given as goal

abbrev pub ghost-entries : goal.ghost-entries
ghost-entries a = slot_line a.line.0.now
