-- `entries`: a line a turn. Assumes nothing.
use Rattle.std.proofs.Common.{◌≡◌, length}
use Rattle.sheet.proofs.EntryLaws.{Reached}
use Rattle.sheet.proofs.entries.entries.Given as goal

abbrev pub invariant-loop-k : goal.invariant-loop-k
invariant-loop-k g l = record {
  reached : Reached g.line_at l.count l.start l.initial.list l.at l.k l.list;
  long : length l.list ≡ length l.initial.list;
}
