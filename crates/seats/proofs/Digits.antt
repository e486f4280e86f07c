-- Laws of a number's binary digits: the highest; one is taken away, all are compared, all are counted.
-- Assumes nothing.
use mathlib.Core.Path.{◌≡◌, refl, sym, ap, ◌∙◌}
use Prim.Native.Nat.{ℕ, zero, suc, ◌+◌, ◌-◌, ◌*◌, ◌/◌, ◌%◌, ◌^◌, ◌≤◌, ◌<◌}
use native.Mathlib.Nat.{pow-suc, div-one, div-eq_of_lt}
use native.Mathlib.Numerals.{one-add}
use native.Mathlib.Omega.{arith}
use lib.Arith.{lt-one}
use lib.Pow.{pow_pos, pow_mono, shr-shr, high, ones_lt, ones_split}
use lib.Count.{ones, ones_in, ones_step, ones-ones}

-- ---- the digits, from the lowest up

pub digit_zero : (s : ℕ) → s / 2 ^ 0 % 2 ≡ s % 2
digit_zero s = ap (λ (x : ℕ). x % 2) (div-one s)

pub digit_suc : (s j : ℕ) → s / 2 ^ suc j % 2 ≡ s / 2 / 2 ^ j % 2
digit_suc s j = ap (λ (x : ℕ). x % 2) (sym (shr-shr s 1 j ∙ ap (λ (x : ℕ). s / 2 ^ x) (one-add j)))

-- digits past the number's length are 0
pub digit_past : (s n j : ℕ) → s < 2 ^ n → n ≤ j → s / 2 ^ j % 2 ≡ 0
digit_past s n j l h = ap (λ (x : ℕ). x % 2) (div-eq_of_lt (omega (arith, pow_mono {i = n} {j = j} h)))

-- numbers below 2 ^ n with the same n digits are the same
pub same_digits : (n s t : ℕ) → s < 2 ^ n → t < 2 ^ n → ((j : ℕ) → j < n → s / 2 ^ j % 2 ≡ t / 2 ^ j % 2) → s ≡ t
same_digits zero s t hs ht f = omega arith
same_digits (suc n) s t hs ht f =
    let p = pow-suc 2 n in
    let b = sym (digit_zero s) ∙ f zero (omega arith) ∙ digit_zero t in
    let r = same_digits n (s / 2) (t / 2) (omega arith) (omega arith) (λ j h. sym (digit_suc s j) ∙ f (suc j) (omega arith) ∙ digit_suc t j) in
    omega arith

-- a number has fewer digits than it counts
pub below_pow : (s : ℕ) → s < 2 ^ s
below_pow zero = pow_pos 0
below_pow (suc s) = let h = below_pow s in let p = pow-suc 2 s in omega arith

-- the highest digit is 1
pub top_digit : (s j : ℕ) → 2 ^ j ≤ s → s < 2 ^ suc j → s / 2 ^ j % 2 ≡ 1
top_digit s j l h =
    let p = pow-suc 2 j in
    let e : s ≡ 1 * 2 ^ j + (s - 2 ^ j) = omega arith in
    ap (λ (x : ℕ). x / 2 ^ j % 2) e ∙ ap (λ (x : ℕ). x % 2) (high 1 j (omega arith))

-- the count of a number's digits is the count of k of them
pub ones_in_lem : (k s : ℕ) → s < 2 ^ k → ones s ≡ ones_in k s
unfolding ones ones_in
ones_in_lem zero s h = ap ones (lt-one h)
ones_in_lem (suc k) s h = ones_step s ∙ ap (λ (x : ℕ). s % 2 + x) (ones_in_lem k (s / 2) (let p = pow-suc 2 k in omega arith))

-- ---- a digit that is 1 is taken away

pub digit_le : (s j : ℕ) → s / 2 ^ j % 2 ≡ 1 → 2 ^ j ≤ s
digit_le s zero e = let h = digit_zero s in omega arith
digit_le s (suc j) e =
    let h = digit_le (s / 2) j (sym (digit_suc s j) ∙ e) in
    rw pow-suc (omega arith)

pub half_less : (s j : ℕ) → (s - 2 ^ suc j) / 2 ≡ s / 2 - 2 ^ j
half_less s j = rw pow-suc (omega arith)

pub odd_less : (s j : ℕ) → 2 ^ suc j ≤ s → (s - 2 ^ suc j) % 2 ≡ s % 2
odd_less s j h = let e = pow-suc 2 j in omega arith

pub less_same : (s j : ℕ) → s / 2 ^ j % 2 ≡ 1 → (s - 2 ^ j) / 2 ^ j % 2 ≡ 0
less_same s zero e = let h = digit_zero s in let g = digit_zero (s - 1) in omega arith
less_same s (suc j) e =
    digit_suc (s - 2 ^ suc j) j ∙ ap (λ (x : ℕ). x / 2 ^ j % 2) (half_less s j) ∙ less_same (s / 2) j (sym (digit_suc s j) ∙ e)

pub less_other : (s j i : ℕ) → s / 2 ^ j % 2 ≡ 1 → (i ≡ j → ⊥) → (s - 2 ^ j) / 2 ^ i % 2 ≡ s / 2 ^ i % 2
less_other s zero zero e n = absurd (n refl)
less_other s zero (suc i) e n =
    let h = digit_zero s in
    let g : (s - 1) / 2 ≡ s / 2 = omega arith in
    digit_suc (s - 1) i ∙ ap (λ (x : ℕ). x / 2 ^ i % 2) g ∙ sym (digit_suc s i)
less_other s (suc j) zero e n =
    digit_zero (s - 2 ^ suc j) ∙ odd_less s j (digit_le s (suc j) e) ∙ sym (digit_zero s)
less_other s (suc j) (suc i) e n =
    digit_suc (s - 2 ^ suc j) i ∙ ap (λ (x : ℕ). x / 2 ^ i % 2) (half_less s j)
    ∙ less_other (s / 2) j i (sym (digit_suc s j) ∙ e) (λ q. n (ap suc q)) ∙ sym (digit_suc s i)

pub less_count : (k s j : ℕ) → j < k → s / 2 ^ j % 2 ≡ 1 → ones_in k (s - 2 ^ j) + 1 ≡ ones_in k s
unfolding ones_in
less_count zero s j h e = omega arith
less_count (suc k) s zero h e =
    let b = digit_zero s in
    let g : (s - 1) / 2 ≡ s / 2 = omega arith in
    rw g (omega arith)
less_count (suc k) s (suc j) h e =
    let r = less_count k (s / 2) j (omega arith) (sym (digit_suc s j) ∙ e) in
    let o = odd_less s j (digit_le s (suc j) e) in
    rw (half_less, o) (omega arith)

-- ---- the number whose n digits are all 1

odd_full : (n : ℕ) → (2 ^ suc n - 1) % 2 ≡ 1
odd_full n = let f = pow-suc 2 n in let g = pow_pos n in omega arith

pub full_digit : (n p : ℕ) → p < n → (2 ^ n - 1) / 2 ^ p % 2 ≡ 1
full_digit n p l =
    let m = n - suc p in
    let e : n ≡ suc m + p = omega arith in
    ap (λ (x : ℕ). (2 ^ x - 1) / 2 ^ p % 2) e
    ∙ ap (λ (x : ℕ). x / 2 ^ p % 2) (ones_split (suc m) p)
    ∙ ap (λ (x : ℕ). x % 2) (high (2 ^ suc m - 1) p (ones_lt p))
    ∙ odd_full m

pub full_count : (k n : ℕ) → n ≤ k → ones_in k (2 ^ n - 1) ≡ n
full_count k n h = sym (ones_in_lem k (2 ^ n - 1) (omega (arith, ones_lt n, pow_mono {i = n} {j = k} h))) ∙ ones-ones n
