-- `digits`: a turn reads one digit, and ends where there is none. Assumes nothing.
use Rattle.std.proofs.Common.{arith, sym, ◌∙◌, ◌≡◌, ◌+◌, ◌-◌}
use Rattle.sheet_lines.proofs.NumberLaws.{digit_found, digits_stop, digits_go, digits_end, value_more, value_small}
use Rattle.sheet_lines.proofs.numbers.digits.Goals as goal

pub overflow_mul-value : goal.overflow_mul-value
overflow_mul-value c = omega (arith, value_small _ _ c.loop-test.true c.loop.invariant.few)

pub overflow_sub-digit : goal.overflow_sub-digit
overflow_sub-digit c = let d = digit_found _ _ _ _ (sym c.in-Ok.ensures) in d.0

pub overflow_add-value : goal.overflow_add-value
overflow_add-value c =
    let d = digit_found _ _ _ _ (sym c.in-Ok.ensures) in
    omega (arith, value_small _ _ c.loop-test.true c.loop.invariant.few)

pub loop-preserved : goal.loop-preserved
loop-preserved c =
    let k = c.loop.counter in
    let d = digit_found _ _ c.in-Ok.digit _ (sym c.in-Ok.ensures) in
    let e : 4 - (k + 1) ≡ 4 - k - 1 = omega arith in
    record {
      few = value_more k _ _ (omega arith) c.loop.invariant.few;
      same = rw (c.from.ensures, e) (sym (digits_go _ _ _ _ _ _ (omega arith) (sym c.in-Ok.ensures)) ∙ c.loop.invariant.same);
    }

pub returns-in_default : goal.returns-in_default
returns-in_default c = sym (digits_stop _ _ _ _ _ _ (sym c.in_default.ensures)) ∙ c.loop.invariant.same

pub returns-after-loop : goal.returns-after-loop
returns-after-loop c = sym (digits_end (4 - c.loop.counter) _ _ _ (omega arith)) ∙ c.loop.invariant.same
