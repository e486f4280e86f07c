-- `ran_page`: what can be printed has its sections. Assumes nothing.
use Rattle.std.proofs.Common.{sym, ◌∙◌, arith}
use Rattle.run.specs.Outcome.{heard}
use Rattle.report.specs.Page.{result_of}
use Rattle.report.proofs.Writing.{then, same, looser}
use Rattle.report.proofs.PageLaws.{page_printed}
use Rattle.report.proofs.sections.ran_page.Goals as goal

pub returns-in-Ok : goal.returns-in-Ok
returns-in-Ok c =
    let a = c.args in
    let can = sym c.printable.ensures ∙ c.if-printable.true in
    looser (omega arith)
    (same (page_printed (result_of a.ran.now a.trail.now) (heard a.shown.bus) c.in-Ok.verdict c.in-Ok.is can)
    (then c.up_to_faults.ensures c.faults_line.ensures))
