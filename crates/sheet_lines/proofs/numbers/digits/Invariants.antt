-- `digits`: what is left of the digits reads as all of them did, and the value has as many digits as were
-- passed. Assumes nothing.
use Rattle.std.proofs.Common.{◌≡◌, ◌<◌, ◌+◌, ◌-◌, ◌^◌}
use Rattle.sheet_lines.specs.Bytes.{is_digit, digits_at}
use Rattle.sheet_lines.proofs.numbers.digits.Given as goal

abbrev pub ghost-byte : goal.ghost-byte
ghost-byte a = is_digit

abbrev pub invariant-loop : goal.invariant-loop
invariant-loop l = record {
  few : l.value < 10 ^ (l.counter + 1);
  same : digits_at (4 - l.counter) l.value l.s l.at ≡ digits_at 4 l.fn.first l.s l.fn.start;
}
