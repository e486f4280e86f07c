-- `module_lines`: a line a turn; the search passes numbers that differ, and is left by the label at one that
-- does not. Assumes nothing.
use Rattle.std.proofs.Common.{ℕ, ◌<◌, ◌≡◌, get_or, length}
use Rattle.sheet.specs.Entries.{module_line}
use Rattle.sheet.proofs.EntryLaws.{Reached}
use Rattle.sheet.proofs.modules.module_lines.Given as goal

abbrev pub invariant-loop-j : goal.invariant-loop-j
invariant-loop-j l = (i : ℕ) → i < l.j → get_or l.list i 0 ≡ l.number → ⊥

abbrev pub invariant-loop-k : goal.invariant-loop-k
invariant-loop-k l = record {
  reached : Reached (module_line l.s) l.count l.start l.initial.list l.at l.k l.list;
  long : length l.list ≡ length l.initial.list;
}
