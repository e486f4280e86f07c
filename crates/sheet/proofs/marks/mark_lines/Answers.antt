-- `mark_lines`: a mark that is read is entered as its line says. Assumes nothing.
use Rattle.std.proofs.Common.{rules}
use Rattle.sheet.proofs.MarkLaws.{mark_entered}
use Rattle.sheet.proofs.marks.mark_lines.Goals as goal

pub entries-requires : goal.entries-requires
entries-requires c κs within = search (rules, mark_entered)
