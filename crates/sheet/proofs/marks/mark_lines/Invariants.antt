-- `mark_lines`: the lines are those of marks. Assumes nothing.
use Rattle.sheet.specs.Marks.{mark_line}
use Rattle.sheet.proofs.marks.mark_lines.Given as goal

abbrev pub ghost-entries : goal.ghost-entries
ghost-entries a = mark_line a.line.1.now a.line.0.now
