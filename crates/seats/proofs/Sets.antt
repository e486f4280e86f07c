-- Laws of the sets of specs/Sets.antt: who is in a set, and how many, after a removal, in the set of one seat
-- and in the full set. Assumes nothing.
use mathlib.Core.Path.{◌≡◌, sym, ap, ◌∙◌}
use mathlib.Core.Bool.{true, false, not, ◌&&◌, and-true, and-false}
use mathlib.Core.Logic.{⊎_elim}
use Prim.Native.Nat.{ℕ, suc, ◌+◌, ◌-◌, ◌/◌, ◌%◌, ◌^◌, ◌≤◌, ◌<◌, min}
use native.Mathlib.Nat.{zero-div, div_self}
use native.Mathlib.Omega.{arith}
use lib.Dec.{eqb, leb}
use lib.Pow.{pow_pos, pow_mono}
use lib.Count.{leading_top}
use borrow.Author.Tests.{eqb-true, eqb-false, eq-eqb, ne_eqb, leb-true, leb-false}
use Rattle.lists.proofs.Tests as tests
use Rattle.lists.proofs.Tests.{both, same?}
use Rattle.seats.specs.Sets.{has_seat, without_seat, full_set, size_of}
use Rattle.seats.proofs.Digits.{digit_past, same_digits, below_pow, top_digit, less_same, less_other, less_count, full_digit, full_count}

-- two digits that both are 1, or both are not
same_test : (a b : ℕ) → a < 2 → b < 2 → eqb a 1 ≡ eqb b 1 → a ≡ b
same_test a b l m e =
    ⊎_elim
    (λ p. eqb-true a 1 p ∙ sym (eqb-true b 1 (sym e ∙ p)))
    (λ p. let u = eqb-false a 1 p in let v = eqb-false b 1 (sym e ∙ p) in omega arith)
    (both (eqb a 1))

-- ---- who is in a set

pub nobody_in : (j : ℕ) → has_seat 0 j ≡ false
nobody_in j = ap (λ (x : ℕ). eqb (x % 2) 1) (zero-div (2 ^ j))

pub none_past : (s n j : ℕ) → s < 2 ^ n → n ≤ j → has_seat s j ≡ false
none_past s n j l h = ne_eqb (s / 2 ^ j % 2) 1 (omega (arith, digit_past s n j l h))

pub same_sets : (n s t : ℕ) → s < 2 ^ n → t < 2 ^ n → ((j : ℕ) → j < n → has_seat s j ≡ has_seat t j) → s ≡ t
same_sets n s t l m h = same_digits n s t l m (λ j i. same_test (s / 2 ^ j % 2) (t / 2 ^ j % 2) (omega arith) (omega arith) (h j i))

-- a set that reaches past n has a seat past n: that of its highest digit
pub past_has : (s n : ℕ) → 2 ^ n ≤ s → (j : ℕ) × (has_seat s j ≡ true) × (n ≤ j)
past_has s n h =
    let t = leading_top s s (omega (arith, pow_pos n)) (below_pow s) in
    let j = t.0 in (
      j,
      eq-eqb (s / 2 ^ j % 2) 1 (top_digit s j t.2 t.3),
      ⊎_elim (λ e. leb-true n j e) (λ e. absurd (omega (arith, t.3, pow_mono {i = suc j} {j = n} (leb-false n j e)))) (both (leb n j)),
    )

-- ---- a set without one seat

pub without_is : (s j : ℕ) → has_seat s j ≡ true → without_seat s j ≡ s - 2 ^ j
without_is s j h = rw h

pub without_none : (s j : ℕ) → has_seat s j ≡ false → without_seat s j ≡ s
without_none s j h = rw h

pub without_le : (s j : ℕ) → without_seat s j ≤ s
without_le s j = ⊎_elim (λ h. omega (arith, without_is s j h)) (λ h. omega (arith, without_none s j h)) (both (has_seat s j))

pub without_same : (s j : ℕ) → has_seat (without_seat s j) j ≡ false
without_same s j =
    ⊎_elim
    (λ h. ap (λ (x : ℕ). has_seat x j) (without_is s j h) ∙ ne_eqb ((s - 2 ^ j) / 2 ^ j % 2) 1 (omega (arith, less_same s j (eqb-true _ _ h))))
    (λ h. ap (λ (x : ℕ). has_seat x j) (without_none s j h) ∙ h)
    (both (has_seat s j))

pub without_other : (s j i : ℕ) → (i ≡ j → ⊥) → has_seat (without_seat s j) i ≡ has_seat s i
without_other s j i n =
    ⊎_elim
    (λ h. ap (λ (x : ℕ). has_seat x i) (without_is s j h) ∙ ap (λ (x : ℕ). eqb x 1) (less_other s j i (eqb-true _ _ h) n))
    (λ h. ap (λ (x : ℕ). has_seat x i) (without_none s j h))
    (both (has_seat s j))

pub without_size : (s j : ℕ) → j < 32 → has_seat s j ≡ true → size_of (without_seat s j) + 1 ≡ size_of s
without_size s j l h = ap (λ (x : ℕ). size_of x + 1) (without_is s j h) ∙ less_count 32 s j l (eqb-true _ _ h)

pub without_has : (s j i : ℕ) → has_seat (without_seat s j) i ≡ (has_seat s i && not (eqb i j))
without_has s j i =
    ⊎_elim
    (λ e. ap (has_seat (without_seat s j)) e ∙ without_same s j ∙ sym (rw (eq-eqb i j e) (and-false (has_seat s i))))
    (λ n. without_other s j i n ∙ sym (rw (ne_eqb i j n) (and-true (has_seat s i))))
    (same? i j)

-- who is in a set without one seat is in the set
pub without_in : (s j i : ℕ) → has_seat (without_seat s j) i ≡ true → has_seat s i ≡ true
without_in s j i h = (tests.and-true (has_seat s i) (not (eqb i j)) (sym (without_has s j i) ∙ h)).0

-- ---- the set of one seat

own_seat : (j : ℕ) → has_seat (2 ^ j) j ≡ true
own_seat j = eq-eqb _ _ (ap (λ (x : ℕ). x % 2) (div_self (pow_pos j)))

pub has_one : (j i : ℕ) → has_seat (2 ^ j) i ≡ eqb i j
has_one j i =
    ⊎_elim
    (λ e. ap (has_seat (2 ^ j)) e ∙ own_seat j ∙ sym (eq-eqb i j e))
    (λ n.
    let z : 2 ^ j - 2 ^ j ≡ 0 = omega arith in
    sym (without_other (2 ^ j) j i n)
    ∙ ap (λ (s : ℕ). has_seat s i) (without_is (2 ^ j) j (own_seat j) ∙ z)
    ∙ nobody_in i
    ∙ sym (ne_eqb i j n))
    (same? i j)

-- ---- the full set

pub full_is : (n : ℕ) → n ≤ 32 → full_set n ≡ 2 ^ n - 1
full_is n h = let e : min n 32 ≡ n = omega arith in ap (λ (x : ℕ). 2 ^ x - 1) e

-- no seat n or above is in a set that is at most the full one
pub below_full : (s n : ℕ) → n ≤ 32 → s ≤ full_set n → s < 2 ^ n
below_full s n h l = let e = full_is n h in let z = pow_pos n in omega arith

pub full_has : (n p : ℕ) → n ≤ 32 → p < n → has_seat (full_set n) p ≡ true
full_has n p h l = ap (λ (x : ℕ). has_seat x p) (full_is n h) ∙ eq-eqb _ _ (full_digit n p l)

pub full_size : (n : ℕ) → n ≤ 32 → size_of (full_set n) ≡ n
full_size n h = ap size_of (full_is n h) ∙ full_count 32 n h
