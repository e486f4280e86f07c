-- Sets of seats that are built up: one seat added, and the seats that pass a test.
use Rattle.std.specs.Prelude.{Bool, cond, ℕ, ◌^◌}
use Rattle.std.specs.Int.Bits.{bit_or}
use Rattle.lists.specs.Counted.{sum}

-- the set with seat j in it too, where that is so
abbrev pub added : ℕ → ℕ → Bool → ℕ
added set j so = cond so (bit_or set (2 ^ j)) set

-- the seats below n that pass the test
abbrev pub seats_with : ℕ → (ℕ → Bool) → ℕ
seats_with n test = sum n (λ p. cond (test p) (2 ^ p) 0)
