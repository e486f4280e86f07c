-- `size`: the machine's count of the 32 digits. Assumes nothing.
use Rattle.std.proofs.Common.{rules}
use Rattle.seats.proofs.Machine.{ones_in_lem}
use Rattle.seats.proofs.size.Goals as goal

pub returns : goal.returns
returns c = ones_in_lem 32 c.args.set (search rules)
