-- What a piece that was read says, in the words of the definitions.
use Rattle.std.specs.Prelude.{ℕ, Result, Ok, Err}
use Rattle.limits.specs.declared.Refused.{Refused}
use Rattle.sheet_lines.specs.Found.{Found, found, offence}

abbrev pub found_of : {A : Type 0} → Result (A × ℕ) Refused → Found A
found_of (Ok r) = found r.0 r.1
found_of (Err r) = offence r.why r.place
