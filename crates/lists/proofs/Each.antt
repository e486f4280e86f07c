-- The elements of a list by their places: every one, every two in their order, and how many pass a test; over
-- lists put one after the other. `d` stands past the end of a list. Assumes nothing.
use mathlib.Core.Path.{◌≡◌, refl, sym, ap, ap₂, ◌∙◌, subst, subst₂}
use mathlib.Core.Bool.{Bool, cond}
use mathlib.Core.List.{List, [], ◌∷◌, ◌++◌}
use mathlib.Core.Logic.{⊎_elim}
use Prim.Native.Nat.{ℕ, zero, suc, ◌+◌, ◌-◌, ◌≤◌, ◌<◌}
use native.Mathlib.Omega.{arith}
use lib.Dec.{ltb}
use lib.ListN.{length, get_or, length-append, get_or-append}
use lib.Seq.{get_or-append-add}
use borrow.Author.Tests.{ltb-true, ltb-false}
use Rattle.lists.specs.Counted.{joined, sum, count_below}
use Rattle.lists.proofs.Counted.{sum_same, sum_split}
use Rattle.lists.proofs.Tests.{both}

module _ {A : Type 0} (d : A) where
  abbrev pub Every : (A → Type 0) → List A → Type 0
  Every P xs = (i : ℕ) → i < length xs → P (get_or xs i d)

  abbrev pub Ordered : (A → A → Type 0) → List A → Type 0
  Ordered R xs = (i j : ℕ) → i < j → j < length xs → R (get_or xs i d) (get_or xs j d)

  -- how many elements pass the test
  abbrev pub tally : (A → Bool) → List A → ℕ
  tally test xs = count_below (length xs) (λ i. test (get_or xs i d))

  -- ---- an element of two lists, one after the other, is one of the first or of the second

  module _ (xs ys : List A) where
    in_first : (i : ℕ) → i < length xs → get_or xs i d ≡ get_or (xs ++ ys) i d
    in_first i l = sym (get_or-append xs ys d i l)

    in_second : (i : ℕ) → length xs ≤ i → get_or ys (i - length xs) d ≡ get_or (xs ++ ys) i d
    in_second i l =
        let q : length xs + (i - length xs) ≡ i = omega arith in
        sym (get_or-append-add xs ys (i - length xs) d) ∙ ap (λ (x : ℕ). get_or (xs ++ ys) x d) q

    pub every_append : (P : A → Type 0) → Every P xs → Every P ys → Every P (xs ++ ys)
    every_append P a b i l =
        let m = length-append xs ys in
        ⊎_elim
        (λ t. let h = ltb-true i (length xs) t in subst P (in_first i h) (a i h))
        (λ f. let h = ltb-false i (length xs) f in subst P (in_second i h) (b (i - length xs) (omega arith)))
        (both (ltb i (length xs)))

    pub ordered_append : (R : A → A → Type 0) → Ordered R xs → Ordered R ys
        → ((i j : ℕ) → i < length xs → j < length ys → R (get_or xs i d) (get_or ys j d)) → Ordered R (xs ++ ys)
    ordered_append R a b c i j l k =
        let m = length-append xs ys in
        ⊎_elim
        (λ t.
        let h = ltb-true j (length xs) t in
        subst₂ R (in_first i (omega arith)) (in_first j h) (a i j l h))
        (λ f.
        let h = ltb-false j (length xs) f in
        ⊎_elim
        (λ u.
        let g = ltb-true i (length xs) u in
        subst₂ R (in_first i g) (in_second j h) (c i (j - length xs) g (omega arith)))
        (λ u.
        let g = ltb-false i (length xs) u in
        subst₂ R (in_second i g) (in_second j h) (b (i - length xs) (j - length xs) (omega arith) (omega arith)))
        (both (ltb i (length xs))))
        (both (ltb j (length xs)))

    pub tally_append : (test : A → Bool) → tally test (xs ++ ys) ≡ tally test xs + tally test ys
    tally_append test =
        let f : ℕ → ℕ = λ i. cond (test (get_or (xs ++ ys) i d)) 1 0 in
        ap (λ (k : ℕ). sum k f) (length-append xs ys)
        ∙ sum_split f (length xs) (length ys)
        ∙ ap₂ (λ (a b : ℕ). a + b)
        (sum_same f (λ i. cond (test (get_or xs i d)) 1 0) (length xs) (λ i l. ap (λ (x : A). cond (test x) 1 0) (get_or-append xs ys d i l)))
        (sum_same (λ i. f (length xs + i)) (λ i. cond (test (get_or ys i d)) 1 0) (length ys)
        (λ i l. ap (λ (x : A). cond (test x) 1 0) (get_or-append-add xs ys i d)))

  -- ---- short lists

  pub every_nil : (P : A → Type 0) → Every P []
  every_nil P i l = absurd (omega arith)

  pub every_one : (P : A → Type 0) (x : A) → P x → Every P (x ∷ [])
  every_one P x h i l = let z : 0 ≡ i = omega arith in subst (λ (k : ℕ). P (get_or (x ∷ []) k d)) z h

  pub every_two : (P : A → Type 0) (x y : A) → P x → P y → Every P (x ∷ y ∷ [])
  every_two P x y a b = every_append (x ∷ []) (y ∷ []) P (every_one P x a) (every_one P y b)

  pub ordered_nil : (R : A → A → Type 0) → Ordered R []
  ordered_nil R i j l k = absurd (omega arith)

  pub ordered_one : (R : A → A → Type 0) (x : A) → Ordered R (x ∷ [])
  ordered_one R x i j l k = absurd (omega arith)

  pub ordered_two : (R : A → A → Type 0) (x y : A) → R x y → Ordered R (x ∷ y ∷ [])
  ordered_two R x y h =
      ordered_append (x ∷ []) (y ∷ []) R (ordered_one R x) (ordered_one R y) (λ i j l k.
      let z : 0 ≡ i = omega arith in
      let w : 0 ≡ j = omega arith in
      subst₂ (λ (u v : ℕ). R (get_or (x ∷ []) u d) (get_or (y ∷ []) v d)) z w h)

  -- ---- the lists that a count builds

  module _ (f : ℕ → List A) where
    pub every_joined : (P : A → Type 0) (k : ℕ) → ((p : ℕ) → p < k → Every P (f p)) → Every P (joined k f)
    every_joined P zero h = every_nil P
    every_joined P (suc k) h = every_append (joined k f) (f k) P (every_joined P k (λ p l. h p (omega arith))) (h k (omega arith))

    pub tally_joined : (test : A → Bool) (k : ℕ) → tally test (joined k f) ≡ sum k (λ p. tally test (f p))
    tally_joined test zero = refl
    tally_joined test (suc k) = tally_append (joined k f) (f k) test ∙ ap (λ (x : ℕ). x + tally test (f k)) (tally_joined test k)
