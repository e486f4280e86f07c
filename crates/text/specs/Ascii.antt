-- The bytes of ASCII that stand in sheets and on pages alike.
use Rattle.std.specs.Prelude.{ℕ, ◌+◌}

-- what parts the words of a line, and what ends the line
abbrev pub space : ℕ
space = 32

abbrev pub line_feed : ℕ
line_feed = 10

-- the digit d
abbrev pub digit : ℕ → ℕ
digit d = 48 + d
