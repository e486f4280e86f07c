-- What stands on a line of a sheet: a number alone and within its limits, a number and one space, a byte
-- alone; and where a line ends.
use Rattle.std.specs.Prelude.{ℕ, Bool, cond, ◌&&◌, List, leb}
use Rattle.limits.specs.declared.Refusal.TheVariants.{OutsideLimits}
use Rattle.sheet_lines.specs.Found.{Found, found, offence, and_then}
use Rattle.sheet_lines.specs.Bytes.{is_space, is_line_feed, byte_at, number_at}

-- the end of a line, one line feed: how many bytes it took
unfoldable pub end_at : List ℕ → ℕ → Found ℕ
end_at sheet at = and_then (byte_at is_line_feed sheet at) (λ feed next. found 1 next)

-- what was found, where its line ends after it
unfoldable pub ended : List ℕ → Found ℕ → Found ℕ
ended sheet last = and_then last (λ value at. and_then (end_at sheet at) (λ took next. found value next))

abbrev pub within : ℕ → ℕ → ℕ → Bool
within least most value = leb least value && leb value most

-- a line with one number. Complete, it is held to its limits: 3 at the line's first byte
unfoldable pub line_at : ℕ → ℕ → List ℕ → ℕ → Found ℕ
line_at least most sheet at =
    and_then (ended sheet (number_at sheet at)) (λ value next. cond (within least most value) (found value next) (offence OutsideLimits at))

-- a number and one space
unfoldable pub spaced_at : List ℕ → ℕ → Found ℕ
spaced_at sheet at = and_then (number_at sheet at) (λ value at. and_then (byte_at is_space sheet at) (λ space next. found value next))

-- a byte alone on its line, to the line's end
abbrev pub lone_at : (ℕ → Bool) → List ℕ → ℕ → Found ℕ
lone_at can sheet at = ended sheet (byte_at can sheet at)
