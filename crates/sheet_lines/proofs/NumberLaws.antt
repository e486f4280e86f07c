-- Laws of the numbers of a sheet, specs/Bytes.antt. Assumes nothing.
use mathlib.Core.Path.{◌≡◌, refl}
use mathlib.Core.Bool.{true}
use mathlib.Core.List.{List}
use Prim.Native.Nat.{ℕ, suc, zero, ◌+◌, ◌*◌, ◌-◌, ◌^◌, ◌≤◌, ◌<◌}
use native.Mathlib.Nat.{pow-suc, pow-le-pow_right, lt_of_lt_of_le}
use native.Mathlib.Numerals.{add-one, sub-one}
use native.Mathlib.Omega.{arith}
use lib.Dec.{leb, lit<}
use borrow.Author.Tests.{leb-true}
use Rattle.lists.proofs.Tests.{and-true}
use Rattle.limits.specs.declared.Refusal.{Refusal}
use Rattle.sheet_lines.specs.Found.{found, offence}
use Rattle.sheet_lines.specs.Bytes.{is_digit, byte_at, digits_at}
use Rattle.sheet_lines.proofs.ByteLaws.{byte_found}

pub digit_range : (b : ℕ) → is_digit b ≡ true → (48 ≤ b) × (b ≤ 57)
digit_range b e = let p = and-true (leb 48 b) (leb b 57) e in (leb-true 48 b p.0, leb-true b 57 p.1)

-- a digit that was found is one
pub digit_found : (s : List ℕ) (at digit next : ℕ) → byte_at is_digit s at ≡ found digit next → (48 ≤ digit) × (digit ≤ 57)
digit_found s at digit next e = digit_range digit (byte_found is_digit s at digit next e).passes

-- ---- the digits after the first

-- what is no digit ends the number
pub digits_stop : (k v : ℕ) (s : List ℕ) (at : ℕ) (why : Refusal) (place : ℕ) → byte_at is_digit s at ≡ offence why place → digits_at k v s at ≡ found v at
unfolding digits_at
digits_stop zero v s at why place h = refl
digits_stop (suc k) v s at why place h = rw h

pub digits_go : (k v : ℕ) (s : List ℕ) (at digit next : ℕ) → 0 < k → byte_at is_digit s at ≡ found digit next
    → digits_at k v s at ≡ digits_at (k - 1) (v * 10 + (digit - 48)) s next
unfolding digits_at
digits_go zero v s at digit next p h = absurd (omega arith)
digits_go (suc k) v s at digit next p h = rw (h, sub-one)

pub digits_end : (k v : ℕ) (s : List ℕ) (at : ℕ) → k ≤ 0 → digits_at k v s at ≡ found v at
unfolding digits_at
digits_end k v s at h = let e : k ≡ 0 = omega arith in rw e

-- ---- a value of five digits at most: after a first digit and k more

pub value_more : (k v d : ℕ) → d < 10 → v < 10 ^ (k + 1) → v * 10 + d < 10 ^ (k + 1 + 1)
value_more k v d l h = rw (add-one (k + 1), pow-suc) (omega arith)

pub value_small : (k v : ℕ) → k < 4 → v < 10 ^ (k + 1) → v < 10000
value_small k v l h =
    let d : k + 1 ≤ 4 = omega arith in
    let m : 10 ^ (k + 1) ≤ 10 ^ 4 = pow-le-pow_right (lit< tt) d in
    lt_of_lt_of_le h m
