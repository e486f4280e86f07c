-- Laws of one byte of a sheet, specs/Bytes.antt, and of its class. Assumes nothing.
use mathlib.Core.Path.{◌≡◌, refl, sym, ap, ◌∙◌}
use mathlib.Core.Bool.{Bool, true, false, cond}
use mathlib.Core.List.{List}
use Prim.Native.Nat.{ℕ, ◌+◌, ◌≤◌, ◌<◌}
use lib.ListN.{length, get_or}
use lib.Dec.{ltb}
use borrow.Author.Tests.{lt-ltb, le-ltb, ltb-true}
use Rattle.std.proofs.lemmas.Bool.{agree_below_at}
use Rattle.limits.specs.declared.Refusal.TheVariants.{EndsEarly, WrongByte}
use Rattle.sheet_lines.specs.Found.{found, offence}
use Rattle.sheet_lines.specs.Bytes.{is_digit, is_space, is_line_feed, is_kind, is_heard, byte_at}
use Rattle.sheet_lines.specs.Classes.{class_of}
use Rattle.sheet_lines.specs.declared.bytes.Class.{Class}
use Rattle.sheet_lines.specs.declared.bytes.Class.TheVariants.{Bit, Digit, Space, Feed, Kind, Silence}

-- two outcomes that differ are not equal
pub not_both : {A X : Type 0} {a : A} {n : ℕ} (why : _) {place : ℕ} → offence why place ≡ found a n → X
not_both why e = absurd (cc)

-- ---- a byte at a place

module _ (can : ℕ → Bool) (s : List ℕ) (at : ℕ) where
  pub byte_here : at < length s → can (get_or s at 0) ≡ true → byte_at can s at ≡ found (get_or s at 0) (at + 1)
  unfolding byte_at
  byte_here l h = rw (lt-ltb at (length s) l, h)

  pub byte_wrong : at < length s → can (get_or s at 0) ≡ false → byte_at can s at ≡ offence WrongByte at
  unfolding byte_at
  byte_wrong l h = rw (lt-ltb at (length s) l, h)

  pub byte_ends : length s ≤ at → byte_at can s at ≡ offence EndsEarly (length s)
  unfolding byte_at
  byte_ends l = rw (le-ltb at (length s) l)

  -- what a byte that was found is
  pub record Byte (b next : ℕ) : Type 0 where
    pub inside : at < length s
    pub passes : can b ≡ true
    pub same : b ≡ get_or s at 0
    pub past : next ≡ at + 1

  pub byte_found : (b next : ℕ) → byte_at can s at ≡ found b next → Byte b next
  unfolding byte_at
  byte_found b next e = go (ltb at (length s)) (can (get_or s at 0)) refl refl e
    where
      go : (t u : Bool) → ltb at (length s) ≡ t → can (get_or s at 0) ≡ u
          → cond t (cond u (found (get_or s at 0) (at + 1)) (offence WrongByte at)) (offence EndsEarly (length s)) ≡ found b next
          → Byte b next
      go true true p q h =
          let x : get_or s at 0 ≡ b = cc in
          record { inside = ltb-true at (length s) p; passes = ap can (sym x) ∙ q; same = sym x; past = cc }
      go true false p q h = not_both _ h
      go false u p q h = not_both _ h

-- ---- classes: a byte can stand there where its class is one of these, tried at every byte

abbrev pub of_digit : Class → Bool
of_digit Bit = true
of_digit Digit = true
of_digit _ = false

abbrev pub of_space : Class → Bool
of_space Space = true
of_space _ = false

abbrev pub of_line_feed : Class → Bool
of_line_feed Feed = true
of_line_feed _ = false

abbrev pub of_kind : Class → Bool
of_kind Kind = true
of_kind _ = false

abbrev pub of_heard : Class → Bool
of_heard Bit = true
of_heard Silence = true
of_heard _ = false

pub digits : (b : ℕ) → b < 256 → is_digit b ≡ of_digit (class_of b)
unfolding class_of
digits b l = agree_below_at is_digit (λ b. of_digit (class_of b)) 256 b refl l

pub spaces : (b : ℕ) → b < 256 → is_space b ≡ of_space (class_of b)
unfolding class_of
spaces b l = agree_below_at is_space (λ b. of_space (class_of b)) 256 b refl l

pub feeds : (b : ℕ) → b < 256 → is_line_feed b ≡ of_line_feed (class_of b)
unfolding class_of
feeds b l = agree_below_at is_line_feed (λ b. of_line_feed (class_of b)) 256 b refl l

pub kinds : (b : ℕ) → b < 256 → is_kind b ≡ of_kind (class_of b)
unfolding class_of
kinds b l = agree_below_at is_kind (λ b. of_kind (class_of b)) 256 b refl l

pub bus_marks : (b : ℕ) → b < 256 → is_heard b ≡ of_heard (class_of b)
unfolding class_of
bus_marks b l = agree_below_at is_heard (λ b. of_heard (class_of b)) 256 b refl l
