-- `has`: a mask has no digit past its 32. Assumes nothing.
use Rattle.std.proofs.Common.{rules, arith}
use Rattle.seats.proofs.Sets.{none_past}
use Rattle.seats.proofs.has.Goals as goal

pub returns-else-j-lt32 : goal.returns-else-j-lt32
returns-else-j-lt32 c = let a = c.args in grind (arith, none_past a.set 32 a.j (search rules) c.if-j-lt32.false)
