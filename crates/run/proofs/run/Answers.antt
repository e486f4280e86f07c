-- `run`: the reader's answer decides. Assumes nothing.
use Rattle.sheet.proofs.Good.{reading_good}
use Rattle.run.proofs.Reading.{keeps_read, keeps_refused}
use Rattle.run.proofs.run.Goals as goal

pub through-requires : goal.through-requires
through-requires c = reading_good _ c.read-reading.result c.read-reading.ensures c.in-Ok.is

pub returns-in-Ok : goal.returns-in-Ok
returns-in-Ok c = keeps_read _ c.read-reading.result c.read-reading.ensures _ c.through.result _ c.in-Ok.is c.through.ensures

pub returns-in-Err : goal.returns-in-Err
returns-in-Err c = keeps_refused _ c.read-reading.result c.read-reading.ensures _ c.in-Err.refused _ c.in-Err.is c.zero.ensures.ring
