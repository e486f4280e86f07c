-- `without`: the mask with one digit cleared, and a mask has none past its 32. Assumes nothing.
use Rattle.std.proofs.Common.{rules, sym, ap, ◌∙◌, ℕ, ◌-◌, ◌^◌, bit_and}
use Rattle.seats.proofs.Machine.{one_shifted, and_all_but}
use Rattle.seats.proofs.Sets.{none_past, without_none}
use Rattle.seats.proofs.without.Goals as goal

pub returns-then-j-lt32 : goal.returns-then-j-lt32
returns-then-j-lt32 c =
    let a = c.args in
    ap (λ (x : ℕ). bit_and a.set ((2 ^ 32 - 1) - x)) (one_shifted a.j c.if-j-lt32.true)
    ∙ and_all_but 32 a.set a.j (search rules) c.if-j-lt32.true

pub returns-else-j-lt32 : goal.returns-else-j-lt32
returns-else-j-lt32 c =
    let a = c.args in
    sym (without_none a.set a.j (none_past a.set 32 a.j (search rules) c.if-j-lt32.false))
