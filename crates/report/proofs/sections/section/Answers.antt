-- `section`: line after line, behind the count. Assumes nothing.
use Rattle.std.proofs.Common.{arith}
use Rattle.report.proofs.Writing.{lines_begin, lines_more, lines_end}
use Rattle.report.proofs.sections.section.Goals as goal

pub loop-k-init : goal.loop-k-init
loop-k-init g c = λ text most each. lines_begin text most

pub loop-k-preserved : goal.loop-k-preserved
loop-k-preserved g c = λ text most each. lines_more text most (c.loop-k.invariant text most each) (each _ c.loop-k.k _ (omega arith) c.line.ensures)

pub returns : goal.returns
returns g c = λ text most each. lines_end text most (omega arith) c.count_line.ensures (c.loop-k.invariant text most each)
