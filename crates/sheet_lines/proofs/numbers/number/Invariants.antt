-- `number`: a digit is wanted. Assumes nothing.
use Rattle.sheet_lines.specs.Bytes.{is_digit}
use Rattle.sheet_lines.proofs.numbers.number.Given as goal

abbrev pub ghost-byte : goal.ghost-byte
ghost-byte a = is_digit
