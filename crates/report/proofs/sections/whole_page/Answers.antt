-- `whole_page`: a page for each answer. Assumes nothing.
use Rattle.std.proofs.Common.{arith}
use Rattle.report.proofs.Writing.{same, looser}
use Rattle.report.proofs.PageLaws.{page_refused, page_ran}
use Rattle.report.proofs.sections.whole_page.Goals as goal

pub returns-in-Err : goal.returns-in-Err
returns-in-Err c = looser (omega arith) (same (page_refused c.args.ran.now c.args.trail.now c.in-Err.is) c.refused_line.ensures)

pub returns-in-Ok : goal.returns-in-Ok
returns-in-Ok c = same (page_ran c.args.ran.now c.args.trail.now c.in-Ok.is) c.ran_page.ensures
