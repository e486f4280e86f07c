-- Each sheet ends further on in the file.
use Rattle.std.proofs.Common.{length, ◌-◌}
use Rattle.try_sheets.proofs.each.Given as goal

abbrev pub decreases-loop-at : goal.decreases-loop-at
decreases-loop-at g l = length l.file - l.at
