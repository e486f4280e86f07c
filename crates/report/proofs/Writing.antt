-- Laws of what writes a text, specs/Inside.antt: a byte, a word, a number; one text after another; the lines of
-- a section. Assumes nothing.
use mathlib.Core.Path.{◌≡◌, refl, sym, ap, ◌∙◌}
use mathlib.Core.List.{List, [], ◌∷◌, ◌++◌}
use Prim.Native.Nat.{ℕ, ◌+◌, ◌*◌, ◌≤◌}
use native.Mathlib.Nat.{le_refl, mul-add}
use native.Mathlib.Omega.{arith}
use lib.ListN.{length, length-append}
use Rattle.lists.specs.Counted.{joined}
use Rattle.lists.proofs.Counted.{joined_more}
use Rattle.text.specs.Decimal.{decimal}
use Rattle.text.specs.Lent.{with_byte, with_text}
use Rattle.text.specs.declared.Lent.{Lent}
use Rattle.text.proofs.Writing.{text_after, byte_alone}
use Rattle.report.specs.Inside.{count_most, Writes}
use Rattle.report.specs.Page.{line_of, section}

pub nothing_writes : {x : Lent} → Writes [] 0 x x
unfolding with_text
nothing_writes = record { done = refl; short = omega arith }

-- a byte, a word or a number of `text`
pub byte_writes : {x y : Lent} {byte : ℕ} → y ≡ with_byte x byte → Writes (byte ∷ []) 1 x y
byte_writes e = record { done = e ∙ sym (byte_alone _ _); short = omega arith }

pub word_writes : {x y : Lent} (word : List ℕ) → y ≡ with_text x word → Writes word (length word) x y
word_writes word e = record { done = e; short = le_refl (length word) }

pub number_writes : {x y : Lent} (n most : ℕ) → length (decimal n) ≤ most → y ≡ with_text x (decimal n) → Writes (decimal n) most x y
number_writes n most l e = record { done = e; short = l }

-- one text after another
pub then : {a b : List ℕ} {m n : ℕ} {x y z : Lent} → Writes a m x y → Writes b n y z → Writes (a ++ b) (m + n) x z
then {a} {b} f g = record {
  done = g.done ∙ ap (λ (l : Lent). with_text l b) f.done ∙ sym (text_after _ a b);
  short = omega (arith, length-append a b, f.short, g.short);
}

-- the same text by another name
pub same : {a b : List ℕ} {m : ℕ} {x y : Lent} → a ≡ b → Writes a m x y → Writes b m x y
same e f = rw e at f

-- a larger bound
pub looser : {a : List ℕ} {m n : ℕ} {x y : Lent} → m ≤ n → Writes a m x y → Writes a n x y
looser h f = record { done = f.done; short = omega (arith, f.short) }

-- ---- a section: its lines one after the other, each of at most so many bytes, after their count

module _ (line : ℕ → List ℕ) (most : ℕ) where
  pub lines_begin : {x : Lent} → Writes (joined 0 line) (most * 0) x x
  lines_begin = looser (omega arith) nothing_writes

  pub lines_more : {k : ℕ} {x y z : Lent} → Writes (joined k line) (most * k) x y → Writes (line k) most y z → Writes (joined (k + 1) line) (most * (k + 1)) x z
  lines_more {k = k} f g = looser (omega (arith, mul-add most k 1)) (same (sym (joined_more line k)) (then f g))

  pub lines_end : {n k : ℕ} {x y z : Lent} → k ≡ n → Writes (line_of (decimal n ∷ [])) count_most x y → Writes (joined k line) (most * k) y z
      → Writes (section n line) (count_most + most * n) x z
  lines_end e f g = then f (rw e at g)
