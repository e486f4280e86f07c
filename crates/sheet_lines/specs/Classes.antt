-- The reader's private classes of bytes, and the test of a byte that it is handed, in the words of the
-- definitions. Nothing that is promised of a public function rests on this file.
use Rattle.std.specs.Prelude.{ℕ, ◌<◌, ◌≡◌, Bool, cond, ◌&&◌, ◌||◌, leb, eqb}
use Rattle.text.specs.Ascii.{space, line_feed, digit}
use Rattle.sheet_lines.specs.Bytes.{send, receive, dark, heard_one, heard_zero, heard_silence}
use Rattle.sheet_lines.specs.declared.bytes.Class.{Class}
use Rattle.sheet_lines.specs.declared.bytes.Class.TheVariants.{Bit, Digit, Space, Feed, Kind, Silence, Other}

-- the class of a byte
unfoldable pub class_of : ℕ → Class
class_of b =
    cond (leb heard_zero b && leb b heard_one) Bit
    (cond (leb (digit 2) b && leb b (digit 9)) Digit
    (cond (eqb b space) Space
    (cond (eqb b line_feed) Feed
    (cond ((leb receive b && leb b send) || eqb b dark) Kind
    (cond (eqb b heard_silence) Silence Other)))))

-- a test that answers as `may` does at every byte
abbrev pub Tests : (ℕ → Bool → Type 0) → (ℕ → Bool) → Type 0
Tests answers may = (b : ℕ) (r : Bool) → b < 256 → answers b r → r ≡ may b
