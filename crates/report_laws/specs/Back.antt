-- Decimal digits read back as the number that they are.
use Rattle.std.specs.Prelude.{List, [], ◌∷◌, ℕ, ◌+◌, ◌-◌, ◌*◌}
use Rattle.text.specs.Ascii.{digit}

-- digits read from left to right, after those that came to v
abbrev pub read_after : ℕ → List ℕ → ℕ
read_after v [] = v
read_after v (b ∷ more) = read_after (v * 10 + (b - digit 0)) more

abbrev pub read_back : List ℕ → ℕ
read_back digits = read_after 0 digits
