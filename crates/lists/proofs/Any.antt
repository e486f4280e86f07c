-- Laws of `any_below` of specs/Counted.antt: whether some number below a count passes. Assumes nothing.
use mathlib.Core.Path.{◌≡◌, refl, sym, ap, ap₂, ◌∙◌}
use mathlib.Core.Bool.{Bool, true, false, or-false, ◌||◌}
use mathlib.Core.Logic.{⊎_elim}
use Prim.Native.Nat.{ℕ, zero, suc, ◌+◌, ◌≤◌, ◌<◌}
use native.Mathlib.Numerals.{add-one}
use native.Mathlib.Omega.{arith}
use Rattle.lists.specs.Counted.{any_below}
use Rattle.lists.proofs.Counted.{below_last}

pub any_more : (f : ℕ → Bool) (k : ℕ) → any_below (k + 1) f ≡ (any_below k f || f k)
any_more f k = ap (λ (x : ℕ). any_below x f) (add-one k)

pub any_same : (f g : ℕ → Bool) (k : ℕ) → ((i : ℕ) → i < k → f i ≡ g i) → any_below k f ≡ any_below k g
any_same f g zero h = refl
any_same f g (suc k) h = ap₂ (λ (a b : Bool). a || b) (any_same f g k (λ i l. h i (omega arith))) (h k (omega arith))

-- none passes from j on
pub any_up_to : (f : ℕ → Bool) (j k : ℕ) → j ≤ k → ((i : ℕ) → j ≤ i → i < k → f i ≡ false) → any_below k f ≡ any_below j f
any_up_to f j zero l h = let e : 0 ≡ j = omega arith in ap (λ (x : ℕ). any_below x f) e
any_up_to f j (suc k) l h =
    ⊎_elim
    (λ m. rw (h k (omega arith) (omega arith), or-false (any_below k f)) (any_up_to f j k (omega arith) (λ i a b. h i a (omega arith))))
    (λ e. ap (λ (x : ℕ). any_below x f) (sym e))
    (below_last j (suc k) (omega arith))

pub any_none : (f : ℕ → Bool) (k : ℕ) → ((i : ℕ) → i < k → f i ≡ false) → any_below k f ≡ false
any_none f k h = any_up_to f 0 k (omega arith) (λ i a l. h i l)

swap_or : (a b x y : Bool) → ((a || b) || (x || y)) ≡ ((a || x) || (b || y))
swap_or true b x y = refl
swap_or false true true y = refl
swap_or false true false y = refl
swap_or false false x y = refl

pub any_or : (f g : ℕ → Bool) (k : ℕ) → any_below k (λ i. f i || g i) ≡ (any_below k f || any_below k g)
any_or f g zero = refl
any_or f g (suc k) = ap (λ (b : Bool). b || (f k || g k)) (any_or f g k) ∙ swap_or (any_below k f) (any_below k g) (f k) (g k)
