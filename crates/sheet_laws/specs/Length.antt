-- How long a good sheet can be.
use Rattle.std.specs.Prelude.{ℕ}

-- the longest good sheet has 10,956 bytes
abbrev pub sheet_most : ℕ
sheet_most = 10956
