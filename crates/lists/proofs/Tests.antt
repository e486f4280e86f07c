-- Laws of the tests of specs/Counted.antt: of every number below a count, and of the first that passes.
-- Assumes nothing.
use mathlib.Core.Path.{◌≡◌, refl, sym, ap, ◌∙◌}
use mathlib.Core.Bool.{Bool, true, false, ◌&&◌, false≢true, true≢false}
use mathlib.Core.Logic.{◌⊎◌, inl, inr, ⊎_elim}
use Prim.Native.Nat.{ℕ, zero, suc, ◌+◌, ◌≤◌, ◌<◌}
use native.Mathlib.Nat.{le_refl}
use native.Mathlib.Numerals.{add-one}
use native.Mathlib.Omega.{arith}
use lib.Dec.{ltb, eqb}
use borrow.Author.Tests.{lt-ltb, le-ltb, ltb-true, ltb-false, eqb-true, eqb-false, eq-eqb, ne_eqb}
use Rattle.lists.specs.Counted.{all_below, first_below}
use Rattle.lists.proofs.Counted.{below_last}
pub use mathlib.Core.Bool.{and-false}

-- a Bool is one of the two, with the equation
pub both : (b : Bool) → (b ≡ true) ⊎ (b ≡ false)
both true = inl refl
both false = inr refl

-- two numbers are one, or not
pub same? : (p q : ℕ) → (p ≡ q) ⊎ (p ≡ q → ⊥)
same? p q = ⊎_elim (λ e. inl (eqb-true p q e)) (λ e. inr (eqb-false p q e)) (both (eqb p q))

pub eqb_sym : (p q : ℕ) → eqb p q ≡ eqb q p
eqb_sym p q =
    ⊎_elim (λ e. eq-eqb p q e ∙ sym (eq-eqb q p (sym e))) (λ n. ne_eqb p q n ∙ sym (ne_eqb q p (λ e. n (sym e)))) (same? p q)

-- ---- and

pub and-true : (a b : Bool) → (a && b) ≡ true → (a ≡ true) × (b ≡ true)
and-true true b e = (refl, e)
and-true false b e = absurd (false≢true e)

pub and_of : {a b : Bool} → a ≡ true → b ≡ true → (a && b) ≡ true
and_of p q = rw (p, q)

-- an `and` that fails, fails at one of the two
pub and_fails : (a b : Bool) → (a && b) ≡ false → (a ≡ false) ⊎ (b ≡ false)
and_fails true b e = inr e
and_fails false b e = inl refl

-- ---- every number below a count

pub all_more : (f : ℕ → Bool) (k : ℕ) → all_below k f ≡ true → f k ≡ true → all_below (k + 1) f ≡ true
all_more f k h e = ap (λ (x : ℕ). all_below x f) (add-one k) ∙ ap (λ (b : Bool). b && f k) h ∙ e

pub all_from : (f : ℕ → Bool) (k : ℕ) → ((i : ℕ) → i < k → f i ≡ true) → all_below k f ≡ true
all_from f zero h = refl
all_from f (suc k) h = ap (λ (b : Bool). b && f k) (all_from f k (λ i l. h i (omega arith))) ∙ h k (omega arith)

pub all_at : (f : ℕ → Bool) (k i : ℕ) → all_below k f ≡ true → i < k → f i ≡ true
all_at f zero i e l = absurd (omega arith)
all_at f (suc k) i e l =
    let b = and-true (all_below k f) (f k) e in
    ⊎_elim (λ h. all_at f k i b.0 h) (λ q. ap f q ∙ b.1) (below_last i k l)

pub all_fails : (f : ℕ → Bool) (k i : ℕ) → i < k → f i ≡ false → all_below k f ≡ false
all_fails f zero i h e = absurd (omega arith)
all_fails f (suc k) i h e =
    ⊎_elim
    (λ l. ap (λ (b : Bool). b && f k) (all_fails f k i l e))
    (λ q. ap (λ (b : Bool). all_below k f && b) (ap f (sym q) ∙ e) ∙ and-false (all_below k f))
    (below_last i k h)

-- where not every number passes, there is one that does not
pub all_not : (f : ℕ → Bool) (k : ℕ) → all_below k f ≡ false → (i : ℕ) × (i < k) × (f i ≡ false)
all_not f zero e = absurd (true≢false e)
all_not f (suc k) e =
    ⊎_elim
    (λ a. let r = all_not f k a in (r.0, omega (arith, r.1), r.2))
    (λ b. (k, omega arith, b))
    (and_fails (all_below k f) (f k) e)

-- ---- the first number below a count

pub first_le : (f : ℕ → Bool) (k : ℕ) → first_below k f ≤ k
first_le f zero = le_refl 0
first_le f (suc k) =
    ⊎_elim
    (λ e. rw e (omega (arith, ltb-true (first_below k f) k e)))
    (λ e. rw e (⊎_elim (λ p. rw p (omega arith)) (λ p. rw p (omega arith)) (both (f k))))
    (both (ltb (first_below k f) k))

-- none passes: the count itself
pub first_none : (f : ℕ → Bool) (k : ℕ) → ((i : ℕ) → i < k → f i ≡ false) → first_below k f ≡ k
first_none f zero h = refl
first_none f (suc k) h =
    let e = first_none f k (λ i l. h i (omega arith)) in
    rw (le-ltb (first_below k f) k (omega arith), h k (omega arith))

-- one passes and none before it: that one
pub first_is : (f : ℕ → Bool) (k i : ℕ) → i < k → f i ≡ true → ((j : ℕ) → j < i → f j ≡ false) → first_below k f ≡ i
first_is f zero i l p h = absurd (omega arith)
first_is f (suc k) i l p h =
    ⊎_elim
    (λ m. let e = first_is f k i m p h in rw (lt-ltb (first_below k f) k (omega arith)) e)
    (λ q.
    let e = first_none f k (λ j m. h j (omega arith)) in
    rw (le-ltb (first_below k f) k (omega arith), ap f (sym q) ∙ p) (sym q))
    (below_last i k l)

-- what the first below k + 1 is, by what the first below k is and whether k passes
first_old : (f : ℕ → Bool) (k : ℕ) → ltb (first_below k f) k ≡ true → first_below (suc k) f ≡ first_below k f
first_old f k e = rw e

first_new : (f : ℕ → Bool) (k : ℕ) → ltb (first_below k f) k ≡ false → f k ≡ true → first_below (suc k) f ≡ k
first_new f k e p = rw (e, p)

first_past : (f : ℕ → Bool) (k : ℕ) → ltb (first_below k f) k ≡ false → f k ≡ false → first_below (suc k) f ≡ suc k
first_past f k e p = rw (e, p)

-- the first that passes does pass
pub first_passes : (f : ℕ → Bool) (k : ℕ) → first_below k f < k → f (first_below k f) ≡ true
first_passes f zero l = absurd (omega arith)
first_passes f (suc k) l =
    ⊎_elim
    (λ e. ap f (first_old f k e) ∙ first_passes f k (ltb-true (first_below k f) k e))
    (λ e. ⊎_elim (λ p. ap f (first_new f k e p) ∙ p) (λ p. absurd (omega (arith, first_past f k e p))) (both (f k)))
    (both (ltb (first_below k f) k))

-- and those before it do not
pub first_before : (f : ℕ → Bool) (k i : ℕ) → i < first_below k f → f i ≡ false
first_before f zero i l = absurd (omega arith)
first_before f (suc k) i l =
    ⊎_elim
    (λ e. first_before f k i (omega (arith, first_old f k e)))
    (λ e.
    let low : k ≤ first_below k f = ltb-false (first_below k f) k e in
    ⊎_elim
    (λ p. first_before f k i (omega (arith, first_new f k e p)))
    (λ p. ⊎_elim (λ h. first_before f k i (omega arith)) (λ q. ap f q ∙ p) (below_last i k (omega (arith, first_past f k e p))))
    (both (f k)))
    (both (ltb (first_below k f) k))
