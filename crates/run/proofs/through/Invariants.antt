-- `through`: before each slot what is left of the run comes to what the whole does. Assumes nothing.
use Rattle.run.specs.Run.{run_sheet}
use Rattle.run.proofs.Running.{Going}
use Rattle.run.proofs.through.Given as goal

abbrev pub invariant-loop-at : goal.invariant-loop-at
invariant-loop-at l = Going l.sheet (run_sheet l.sheet l.initial.trail) l.trail l.stepped.ring l.gathered l.at
