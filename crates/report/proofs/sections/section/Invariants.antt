-- `section`: before line k the lines below it are written. Assumes nothing.
use Rattle.std.proofs.Common.{ℕ, List, ◌*◌}
use Rattle.lists.specs.Counted.{joined}
use Rattle.report.specs.Inside.{Writes, WritesEach}
use Rattle.report.proofs.sections.section.Given as goal

abbrev pub invariant-loop-k : goal.invariant-loop-k
invariant-loop-k g l =
    (text : ℕ → List ℕ) (most : ℕ) → WritesEach (goal.F-post g l.line) l.count text most
    → Writes (joined l.k text) (most * l.k) l.initial.page l.page
