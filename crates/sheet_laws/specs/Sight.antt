-- What a reader has seen of a sheet when it refuses it, in words for a theorem: no byte after those can
-- change the answer.
use Rattle.std.specs.Prelude.{◌≡◌, List, ◌⊎◌, ℕ, ◌+◌, ◌≤◌, ◌<◌, length, get_or}
use Rattle.limits.specs.declared.Refusal.{Refusal}
use Rattle.limits.specs.declared.Refusal.TheVariants.{WrongByte, BytesAfter}
use Rattle.sheet_lines.specs.Found.{Found, offence}

-- two sheets have the same first `seen` bytes
pub record Same (seen : ℕ) (s t : List ℕ) : Type 0 where
  pub long : seen ≤ length s
  pub also : seen ≤ length t
  pub bytes : (i : ℕ) → i < seen → get_or s i 0 ≡ get_or t i 0

-- a reader, a function of the sheet, starts at `from` in the sheet s and stops, but not at the sheet's end:
-- it has seen so many bytes, up to the one refused where a byte is, and refuses alike every sheet that has
-- the same
pub record Stopped {A : Type 0} (from : ℕ) (read : List ℕ → Found A) (s : List ℕ) (why : Refusal) (place : ℕ) : Type 0 where
  pub seen : ℕ
  pub after : from ≤ seen
  pub past : place < seen
  pub inside : seen ≤ length s
  pub here : (why ≡ WrongByte) ⊎ (why ≡ BytesAfter) → seen ≡ place + 1
  pub alike : (t : List ℕ) → Same seen s t → read t ≡ offence why place
