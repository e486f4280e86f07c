-- Decimal numbers: a number as its digits in ASCII, the highest first and none of them a leading zero.
use Rattle.std.specs.Prelude.{cond, List, [], ◌∷◌, ◌++◌, ℕ, zero, suc, ◌/◌, ◌%◌, ltb}
use Rattle.text.specs.Ascii.{digit}

-- a number below 10 is one digit; any other is its tens and then its last digit. `more` bounds the number of
-- digits
unfoldable pub digits_in : ℕ → ℕ → List ℕ
digits_in zero n = []
digits_in (suc more) n =
    let tens = digits_in more (n / 10) in
    cond (ltb n 10) (digit n ∷ []) (tens ++ (digit (n % 10) ∷ []))

-- no number has more digits than one more than itself
unfoldable pub decimal : ℕ → List ℕ
decimal n = digits_in (suc n) n
