-- Laws of decimal numbers, specs/Decimal.antt: how they go on, and how long they are. Assumes nothing.
use mathlib.Core.Path.{◌≡◌, sym, ap, ◌∙◌}
use mathlib.Core.List.{List, [], ◌∷◌, ◌++◌}
use mathlib.Core.Logic.{⊎_elim}
use Prim.Native.Nat.{ℕ, zero, suc, ◌/◌, ◌%◌, ◌^◌, ◌≤◌, ◌<◌}
use native.Mathlib.Nat.{pow-suc}
use native.Mathlib.Omega.{arith}
use lib.Dec.{ltb}
use lib.ListN.{length, length-append}
use borrow.Author.Tests.{lt-ltb, le-ltb, ltb-true, ltb-false}
use Rattle.lists.proofs.Tests.{both}
use Rattle.text.specs.Ascii.{digit}
use Rattle.text.specs.Decimal.{digits_in, decimal}

-- ---- a number below 10, and any other

digits_one : (k n : ℕ) → n < 10 → digits_in (suc k) n ≡ digit n ∷ []
unfolding digits_in
digits_one k n h = rw (lt-ltb n 10 h)

digits_more : (k n : ℕ) → 10 ≤ n → digits_in (suc k) n ≡ digits_in k (n / 10) ++ (digit (n % 10) ∷ [])
unfolding digits_in
digits_more k n h = rw (le-ltb n 10 h)

-- a larger bound on the digits makes no difference
digits_same : (k m n : ℕ) → n < k → n < m → digits_in k n ≡ digits_in m n
digits_same zero m n h g = absurd (omega arith)
digits_same (suc k) zero n h g = absurd (omega arith)
digits_same (suc k) (suc m) n h g =
    ⊎_elim
    (λ e. let l = ltb-true n 10 e in digits_one k n l ∙ sym (digits_one m n l))
    (λ e.
    let l = ltb-false n 10 e in
    digits_more k n l
    ∙ ap (λ (x : List ℕ). x ++ (digit (n % 10) ∷ [])) (digits_same k m (n / 10) (omega arith) (omega arith))
    ∙ sym (digits_more m n l))
    (both (ltb n 10))

pub decimal_one : (n : ℕ) → n < 10 → decimal n ≡ digit n ∷ []
unfolding decimal
decimal_one n h = digits_one n n h

pub decimal_more : (n : ℕ) → 10 ≤ n → decimal n ≡ decimal (n / 10) ++ (digit (n % 10) ∷ [])
unfolding decimal
decimal_more n h =
    digits_more n n h
    ∙ ap (λ (x : List ℕ). x ++ (digit (n % 10) ∷ [])) (digits_same n (suc (n / 10)) (n / 10) (omega arith) (omega arith))

-- ---- a number below 10 ^ k has at most k digits, where k is not 0

pub decimal_short : (k n : ℕ) → n < 10 ^ suc k → length (decimal n) ≤ suc k
decimal_short zero n h = let e = ap length (decimal_one n (omega (arith, pow-suc 10 0))) in omega arith
decimal_short (suc k) n h =
    ⊎_elim
    (λ e. let o = ap length (decimal_one n (ltb-true n 10 e)) in omega arith)
    (λ e.
    let o = ap length (decimal_more n (ltb-false n 10 e)) ∙ length-append (decimal (n / 10)) (digit (n % 10) ∷ []) in
    let r = decimal_short k (n / 10) (omega (arith, pow-suc 10 (suc k))) in
    omega arith)
    (both (ltb n 10))

-- a machine's number has at most 20 digits
pub machine_short : (n : ℕ) → n < 2 ^ 64 → length (decimal n) ≤ 20
machine_short n h = decimal_short 19 n (omega arith)

-- and one below 2 ^ 16 at most 5
pub half_short : (n : ℕ) → n < 2 ^ 16 → length (decimal n) ≤ 5
half_short n h = decimal_short 4 n (omega arith)
