-- `fresh_ring`: before seat p the seats below it are fresh. Assumes nothing.
use Rattle.std.proofs.Common.{◌≡◌}
use Rattle.ring.proofs.Starting.{begun}
use Rattle.ring.proofs.start.fresh_ring.Given as goal

abbrev pub invariant-loop-p : goal.invariant-loop-p
invariant-loop-p l = l.ring ≡ begun l.n l.p
