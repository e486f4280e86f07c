-- `lone`: what its caller wants. Assumes nothing.
use Rattle.sheet_lines.proofs.lone.Given as goal

abbrev pub ghost-byte : goal.ghost-byte
ghost-byte g a = g.may
