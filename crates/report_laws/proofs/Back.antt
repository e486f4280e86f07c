-- Reading a printed number back gives the number, and no number but 0 begins with a zero. Assumes nothing.
use mathlib.Core.Path.{◌≡◌, refl, sym, ap, ◌∙◌}
use mathlib.Core.List.{List, [], ◌∷◌, ◌++◌}
use mathlib.Core.Logic.{⊎_elim}
use Prim.Native.Nat.{ℕ, zero, suc, ◌+◌, ◌-◌, ◌*◌, ◌/◌, ◌%◌, ◌<◌}
use native.Mathlib.Omega.{arith}
use lib.Dec.{ltb}
use lib.ListN.{get_or}
use borrow.Author.Tests.{ltb-true, ltb-false}
use Rattle.lists.proofs.Tests.{both}
use Rattle.text.specs.Ascii.{digit}
use Rattle.text.specs.Decimal.{decimal}
use Rattle.text.proofs.Decimals.{decimal_one, decimal_more}
use Rattle.report_laws.specs.Back.{read_after, read_back}

-- ---- reading them back gives the number

read_append : (v : ℕ) (xs ys : List ℕ) → read_after v (xs ++ ys) ≡ read_after (read_after v xs) ys
read_append v [] ys = refl
read_append v (x ∷ xs) ys = read_append (v * 10 + (x - digit 0)) xs ys

back_below : (k n : ℕ) → n < k → read_back (decimal n) ≡ n
back_below zero n h = absurd (omega arith)
back_below (suc k) n h =
    ⊎_elim
    (λ e. ap read_back (decimal_one n (ltb-true n 10 e)) ∙ omega arith)
    (λ e.
    ap read_back (decimal_more n (ltb-false n 10 e))
    ∙ read_append 0 (decimal (n / 10)) (digit (n % 10) ∷ [])
    ∙ let l = ltb-false n 10 e in let r = back_below k (n / 10) (omega arith) in omega arith)
    (both (ltb n 10))

pub decimal_back : (n : ℕ) → read_back (decimal n) ≡ n
decimal_back n = back_below (suc n) n (omega arith)

-- so no two numbers are printed alike
pub one_number : (m n : ℕ) → decimal m ≡ decimal n → m ≡ n
one_number m n e = sym (decimal_back m) ∙ ap read_back e ∙ decimal_back n

-- ---- no leading zero

-- what a list begins with, 0 where it is empty, stays where more comes after
first_stays : (xs ys : List ℕ) → 0 < get_or xs 0 0 → get_or (xs ++ ys) 0 0 ≡ get_or xs 0 0
first_stays [] ys h = absurd (omega arith)
first_stays (x ∷ xs) ys h = refl

lead_below : (k n : ℕ) → n < k → 0 < n → digit 0 < get_or (decimal n) 0 0
lead_below zero n h p = absurd (omega arith)
lead_below (suc k) n h p =
    ⊎_elim
    (λ e. rw (decimal_one n (ltb-true n 10 e)) (omega arith))
    (λ e.
    let l = ltb-false n 10 e in
    let r = lead_below k (n / 10) (omega arith) (omega arith) in
    let s = first_stays (decimal (n / 10)) (digit (n % 10) ∷ []) (omega arith) in
    rw (decimal_more n l) (omega arith))
    (both (ltb n 10))

pub decimal_lead : (n : ℕ) → 0 < n → digit 0 < get_or (decimal n) 0 0
decimal_lead n p = lead_below (suc n) n (omega arith) p
