-- The bench along the run of a sheet: what the theorems on runs speak of. What `run` promises does not rest
-- on it.
use Rattle.std.specs.Prelude.{List, ℕ}
use Rattle.lists.specs.Counted.{tab}
use Rattle.steps.specs.Run.{Bench, fresh_bench, run_on}
use Rattle.sheet.specs.declared.Sheet.{Sheet}
use Rattle.run.specs.Marks.{marks_at}

-- the ring and the trail after the first k slots: the step's definition folded over their marks
abbrev pub bench_at : Sheet → List ℕ → ℕ → Bench
bench_at sheet trail k = run_on (tab k (marks_at sheet)) (fresh_bench sheet.n trail)
