-- The numbers below a count that pass a test: one of them, if there is one; and how many, by those that are
-- known. Assumes nothing.
use mathlib.Core.Bool.{Bool, true, false, cond, not}
use mathlib.Core.Logic.{◌⊎◌, inl, inr, ⊎_elim}
use mathlib.Core.Path.{◌≡◌, ap}
use Prim.Native.Nat.{ℕ, zero, suc, ◌+◌, ◌≤◌, ◌<◌}
use native.Mathlib.Omega.{arith}
use borrow.Author.Tests.{not-true, not-false}
use Rattle.lists.specs.Counted.{count_below, all_below}
use Rattle.lists.proofs.Counted.{sum_le, sum_zero}
use Rattle.lists.proofs.Tests.{both, all_at, all_not}

module _ (f : ℕ → Bool) where
  -- one passes, or none does
  pub found : (k : ℕ) → ((p : ℕ) × (p < k) × (f p ≡ true)) ⊎ ((p : ℕ) → p < k → f p ≡ false)
  found k =
      ⊎_elim
      (λ e. inr (λ p l. not-true (f p) (all_at (λ i. not (f i)) k p e l)))
      (λ e. let r = all_not (λ i. not (f i)) k e in inl (r.0, r.1, not-false (f r.0) r.2))
      (both (all_below k (λ i. not (f i))))

  -- ---- counted

  counts : (k : ℕ) → f k ≡ true → count_below (suc k) f ≡ count_below k f + 1
  counts k e = rw e

  passes : (k : ℕ) → f k ≡ false → count_below (suc k) f ≡ count_below k f + 0
  passes k e = rw e

  -- one is below the count
  pub one_counted : (k p : ℕ) → p < k → f p ≡ true → 0 < count_below k f
  one_counted k p l e = omega (arith, counts p e, sum_le (λ i. cond (f i) 1 0) (suc p) k l)

  pub two_counted : (k p q : ℕ) → p < q → q < k → f p ≡ true → f q ≡ true → 2 ≤ count_below k f
  two_counted k p q l m e g = omega (arith, one_counted q p l e, counts q g, sum_le (λ i. cond (f i) 1 0) (suc q) k m)

  -- a count above 0 has one
  pub counted_one : (k : ℕ) → 0 < count_below k f → (p : ℕ) × (p < k) × (f p ≡ true)
  counted_one k h =
      ⊎_elim
      (λ r. r)
      (λ none. absurd (omega (arith, sum_zero (λ i. cond (f i) 1 0) k (λ i l. ap (λ (b : Bool). cond b 1 0) (none i l)))))
      (found k)

  pub counted_two : (k : ℕ) → 2 ≤ count_below k f → (p : ℕ) × (q : ℕ) × (p < q) × (q < k) × (f p ≡ true) × (f q ≡ true)
  counted_two zero h = absurd (omega arith)
  counted_two (suc k) h =
      ⊎_elim
      (λ e. let r = counted_one k (omega (arith, counts k e)) in (r.0, k, r.1, omega arith, r.2, e))
      (λ e. let r = counted_two k (omega (arith, passes k e)) in (r.0, r.1, r.2, omega (arith, r.3), r.4, r.5))
      (both (f k))
