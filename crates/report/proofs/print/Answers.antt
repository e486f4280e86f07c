-- `print`: the page stands whole, or is cut where the buffer ends. Assumes nothing.
use Rattle.std.proofs.Common.{rules}
use Rattle.report.proofs.PageLaws.{prints}
use Rattle.report.proofs.print.Goals as goal

pub returns : goal.returns
returns c = prints _ (rw c.new-lent.ensures at c.whole_page.ensures) (search rules) (search rules)
