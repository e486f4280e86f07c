-- A number that there may not be, as one number.
use Rattle.std.specs.Prelude.{Option, None, Some, ℕ, ◌+◌}

-- one more than it, and 0 where there is none
abbrev pub kept : Option ℕ → ℕ
kept None = 0
kept (Some t) = t + 1
