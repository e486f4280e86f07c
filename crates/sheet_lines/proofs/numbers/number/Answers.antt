-- `number`: a first digit is one, and its value is below 10. Assumes nothing.
use Rattle.std.proofs.Common.{arith, sym}
use Rattle.sheet_lines.proofs.NumberLaws.{digit_found}
use Rattle.sheet_lines.proofs.numbers.number.Goals as goal

pub overflow_sub-digit : goal.overflow_sub-digit
overflow_sub-digit c = let d = digit_found _ _ _ _ (sym c.in_ok-digit.ensures) in d.0

pub digits-requires : goal.digits-requires
digits-requires c = let d = digit_found _ _ _ _ (sym c.in_ok-digit.ensures) in omega arith
