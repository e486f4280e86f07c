-- `with_slot`: the marks looked at so far are gathered. Assumes nothing.
use Rattle.std.proofs.Common.{◌≡◌, ◌+◌}
use Rattle.run.specs.Inside.{Gathers}
use Rattle.run.proofs.marks.Gathered.with_slot.Given as goal

abbrev pub invariant-loop-mark : goal.invariant-loop-mark
invariant-loop-mark l = (l.gathered.next ≡ l.fn.self.next + l.mark-index) × Gathers l.sheet l.at l.gathered
