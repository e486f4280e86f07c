-- `page`: what the run leaves is printed. Assumes nothing.
use Rattle.sheet_page.proofs.Texts.{run_text}
use Rattle.sheet_page.proofs.page.Goals as goal

pub returns : goal.returns
returns c = rw (run_text c.run-ran.ensures c.empty-trail.ensures) at c.print.ensures
