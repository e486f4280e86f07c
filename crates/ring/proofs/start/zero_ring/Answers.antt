-- `zero_ring`: 32 empty seats. Assumes nothing.
use Rattle.std.proofs.Common.{refl}
use Rattle.ring.specs.Ring.{zero_ring}
use Rattle.ring.proofs.start.zero_ring.Goals as goal

pub returns : goal.returns
unfolding zero_ring
returns c = refl
