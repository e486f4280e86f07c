-- Laws of text written into a lent buffer, specs/Lent.antt: one text after another. Assumes nothing.
use mathlib.Core.Path.{◌≡◌, refl}
use mathlib.Core.List.{List, [], ◌∷◌, ◌++◌}
use Prim.Native.Nat.{ℕ}
use Rattle.text.specs.Lent.{with_byte, with_text}
use Rattle.text.specs.declared.Lent.{Lent}

pub text_after : (x : Lent) (a b : List ℕ) → with_text x (a ++ b) ≡ with_text (with_text x a) b
unfolding with_text
text_after x [] b = refl
text_after x (byte ∷ a) b = text_after (with_byte x byte) a b

pub byte_alone : (x : Lent) (byte : ℕ) → with_text x (byte ∷ []) ≡ with_byte x byte
unfolding with_text
byte_alone x byte = refl
