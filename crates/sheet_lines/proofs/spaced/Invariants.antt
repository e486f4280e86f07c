-- `spaced`: a space is wanted. Assumes nothing.
use Rattle.sheet_lines.specs.Bytes.{is_space}
use Rattle.sheet_lines.proofs.spaced.Given as goal

abbrev pub ghost-byte : goal.ghost-byte
ghost-byte a = is_space
