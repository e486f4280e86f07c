-- A set of seats as a number: seat j is in it where binary digit j is 1.
use Rattle.std.specs.Prelude.{Bool, cond, ℕ, ◌-◌, ◌/◌, ◌%◌, ◌^◌, min, eqb}
use Rattle.std.specs.Int.Count.{ones_in}

abbrev pub has_seat : ℕ → ℕ → Bool
has_seat set j = eqb (set / 2 ^ j % 2) 1

abbrev pub without_seat : ℕ → ℕ → ℕ
without_seat set j = cond (has_seat set j) (set - 2 ^ j) set

-- the seats below n, of which a mask has at most 32
abbrev pub full_set : ℕ → ℕ
full_set n = 2 ^ min n 32 - 1

-- how many seats are in the set
abbrev pub size_of : ℕ → ℕ
size_of set = ones_in 32 set
