-- Laws of the lists and sums of specs/Counted.antt. Assumes nothing.
use mathlib.Core.Path.{◌≡◌, refl, sym, ap, ap₂, ◌∙◌}
use mathlib.Core.Bool.{Bool, true, false, cond}
use mathlib.Core.List.{List, [], ◌∷◌, ◌++◌, append-nil, append_assoc}
use mathlib.Core.Logic.{◌⊎◌, inl, inr, ⊎_elim}
use Prim.Native.Nat.{ℕ, zero, suc, ◌+◌, ◌-◌, ◌*◌, ◌≤◌, ◌<◌}
use native.Mathlib.Nat.{add-zero, add-suc, le_refl, mul-add, mul-suc, mul-zero, zero-mul}
use native.Mathlib.Numerals.{add-one}
use native.Mathlib.Decide.{dec_lt}
use native.Mathlib.Omega.{arith}
use lib.Arith.{le-zero}
use lib.ListN.{length, drop, set, get_or, replicate, length-append, length-drop, length-replicate, get_or-replicate, get_or-append}
use lib.Seq.{get_or-append-add, get_or-drop, set_at, get_or_at, drop-cons, append_snoc, ext_get_or, set-get_or}
use Rattle.lists.specs.Counted.{tab, joined, sum, count_below}

-- a number below k + 1 is below k, or is k
pub below_last : (i k : ℕ) → i < suc k → (i < k) ⊎ (i ≡ k)
below_last i k h = go (dec_lt i k)
  where
    go : Dec (i < k) → (i < k) ⊎ (i ≡ k)
    go (yes l) = inl l
    go (no n) = inr (omega arith)

-- numbers of which none is below the one before it: none is below any before it
pub rising : (f : ℕ → ℕ) (k : ℕ) → ((i : ℕ) → suc i < k → f i ≤ f (suc i)) → (i j : ℕ) → i ≤ j → j < k → f i ≤ f j
rising f k h i zero l m = rw (le-zero l) (le_refl (f 0))
rising f k h i (suc j) l m =
    ⊎_elim
    (λ n. let a = rising f k h i j (omega arith) (omega arith) in let b = h j m in omega arith)
    (λ e. rw e (le_refl (f (suc j))))
    (below_last i (suc j) (omega arith))

-- ---- tab

pub length-tab : {A : Type 0} (k : ℕ) (f : ℕ → A) → length (tab k f) ≡ k
length-tab zero f = refl
length-tab (suc k) f = length-append (tab k f) (f k ∷ []) ∙ ap (λ (x : ℕ). x + 1) (length-tab k f) ∙ add-one k

-- the first k, and j after them
pub tab_split : {A : Type 0} (k j : ℕ) (f : ℕ → A) → tab k f ++ tab j (λ i. f (k + i)) ≡ tab (k + j) f
tab_split k zero f = append-nil (tab k f) ∙ ap (λ (x : ℕ). tab x f) (sym (add-zero k))
tab_split k (suc j) f =
    sym (append_assoc (tab k f) (tab j (λ i. f (k + i))) (f (k + j) ∷ []))
    ∙ ap (λ (l : List _). l ++ (f (k + j) ∷ [])) (tab_split k j f)
    ∙ ap (λ (x : ℕ). tab x f) (sym (add-suc k j))

pub get_or-tab : {A : Type 0} (k : ℕ) (f : ℕ → A) (d : A) (i : ℕ) → i < k → get_or (tab k f) i d ≡ f i
get_or-tab zero f d i h = absurd (omega arith)
get_or-tab (suc k) f d i h =
    ⊎_elim
    (λ l. get_or-append (tab k f) (f k ∷ []) d i (omega (arith, length-tab k f)) ∙ get_or-tab k f d i l)
    (λ e. ap (λ (x : ℕ). get_or (tab (suc k) f) x d) e ∙ get_or_at (tab k f) (f k) [] d k (length-tab k f) ∙ ap f (sym e))
    (below_last i k h)

-- ---- a list whose first p elements are drawn anew, the rest being as they were

-- one more turn of a loop that writes element p
pub draw_next : {A : Type 0} (p : ℕ) (f : ℕ → A) (old : List A) → p < length old
    → set (tab p f ++ drop p old) p (f p) ≡ tab (p + 1) f ++ drop (p + 1) old
draw_next p f old h =
    ap (λ (l : List _). set (tab p f ++ l) p (f p)) (drop-cons old p (f p) h)
    ∙ set_at (tab p f) (get_or old p (f p)) (drop (suc p) old) (f p) p (length-tab p f)
    ∙ sym (append_snoc (tab p f) (f p) (drop (suc p) old))
    ∙ sym (ap (λ (x : ℕ). tab x f ++ drop x old) (add-one p))

pub length_drawn : {A : Type 0} (p : ℕ) (f : ℕ → A) (old : List A) → p ≤ length old → length (tab p f ++ drop p old) ≡ length old
length_drawn p f old h = length-append (tab p f) (drop p old) ∙ let e = length-tab p f in let d = length-drop p old in omega arith

pub drawn_below : {A : Type 0} (n : ℕ) (f : ℕ → A) (old : List A) (d : A) (p : ℕ) → p < n → get_or (tab n f ++ drop n old) p d ≡ f p
drawn_below n f old d p l = get_or-append (tab n f) (drop n old) d p (omega (arith, length-tab n f)) ∙ get_or-tab n f d p l

pub drawn_above : {A : Type 0} (n : ℕ) (f : ℕ → A) (old : List A) (d : A) (p : ℕ) → n ≤ p → get_or (tab n f ++ drop n old) p d ≡ get_or old p d
drawn_above n f old d p l =
    let e : p ≡ length (tab n f) + (p - n) = let t = length-tab n f in omega arith in
    let g : n + (p - n) ≡ p = omega arith in
    ap (λ (x : ℕ). get_or (tab n f ++ drop n old) x d) e
    ∙ get_or-append-add (tab n f) (drop n old) (p - n) d
    ∙ get_or-drop n old (p - n) d
    ∙ ap (λ (x : ℕ). get_or old x d) g

-- and one more turn of a loop that finds element p as it is to be, and leaves it
pub draw_same : {A : Type 0} (p : ℕ) (f : ℕ → A) (old : List A) (d : A) → p < length old → f p ≡ get_or old p d
    → tab p f ++ drop p old ≡ tab (p + 1) f ++ drop (p + 1) old
draw_same p f old d h e =
    sym (set-get_or (tab p f ++ drop p old) p d)
    ∙ ap (set (tab p f ++ drop p old) p) (drawn_above p f old d p (le_refl p) ∙ sym e)
    ∙ draw_next p f old h

-- elements that are all alike are as they were
pub drawn_alike : {A : Type 0} (x : A) (k p : ℕ) → p ≤ k → tab p (λ q. x) ++ drop p (replicate k x) ≡ replicate k x
drawn_alike x k p h =
    let e = length_drawn p (λ q. x) (replicate k x) (omega (arith, length-replicate k x)) in
    ext_get_or x (tab p (λ q. x) ++ drop p (replicate k x)) (replicate k x) e (λ i l. go i (omega (arith, e, length-replicate k x)) (dec_lt i p))
  where
    go : (i : ℕ) → i < k → Dec (i < p) → get_or (tab p (λ q. x) ++ drop p (replicate k x)) i x ≡ get_or (replicate k x) i x
    go i l (yes b) = drawn_below p (λ q. x) (replicate k x) x i b ∙ sym (get_or-replicate k i x x l)
    go i l (no b) = drawn_above p (λ q. x) (replicate k x) x i (omega arith)

-- and so is what stands past the end of such a list
pub get_or_alike : {A : Type 0} (k i : ℕ) (x : A) → get_or (replicate k x) i x ≡ x
get_or_alike zero i x = refl
get_or_alike (suc k) zero x = refl
get_or_alike (suc k) (suc i) x = get_or_alike k i x

-- ---- joined

pub joined_more : {A : Type 0} (f : ℕ → List A) (k : ℕ) → joined (k + 1) f ≡ joined k f ++ f k
joined_more f k = ap (λ (x : ℕ). joined x f) (add-one k)

pub length-joined : {A : Type 0} (f : ℕ → List A) (k : ℕ) → length (joined k f) ≡ sum k (λ i. length (f i))
length-joined f zero = refl
length-joined f (suc k) = length-append (joined k f) (f k) ∙ ap (λ (x : ℕ). x + length (f k)) (length-joined f k)

-- ---- sum

pub sum_more : (f : ℕ → ℕ) (k : ℕ) → sum (k + 1) f ≡ sum k f + f k
sum_more f k = ap (λ (x : ℕ). sum x f) (add-one k)

pub sum_same : (f g : ℕ → ℕ) (k : ℕ) → ((i : ℕ) → i < k → f i ≡ g i) → sum k f ≡ sum k g
sum_same f g zero h = refl
sum_same f g (suc k) h = ap₂ (λ (a b : ℕ). a + b) (sum_same f g k (λ i l. h i (omega arith))) (h k (omega arith))

pub sum_times : (c : ℕ) (f : ℕ → ℕ) (k : ℕ) → sum k (λ i. c * f i) ≡ c * sum k f
sum_times c f zero = sym (mul-zero c)
sum_times c f (suc k) = ap (λ (x : ℕ). x + c * f k) (sum_times c f k) ∙ sym (mul-add c (sum k f) (f k))

-- the sum grows with its count
pub sum_le : (f : ℕ → ℕ) (j k : ℕ) → j ≤ k → sum j f ≤ sum k f
sum_le f j k h = rising (λ i. sum i f) (suc k) (λ i l. omega arith) j k h (omega arith)

-- and with its terms
pub sum_mono : (f g : ℕ → ℕ) (k : ℕ) → ((i : ℕ) → i < k → f i ≤ g i) → sum k f ≤ sum k g
sum_mono f g zero h = le_refl 0
sum_mono f g (suc k) h = let r = sum_mono f g k (λ i l. h i (omega arith)) in let s = h k (omega arith) in omega arith

pub sum_at_most : (f : ℕ → ℕ) (c k : ℕ) → ((i : ℕ) → i < k → f i ≤ c) → sum k f ≤ c * k
sum_at_most f c zero h = omega arith
sum_at_most f c (suc k) h = let r = sum_at_most f c k (λ i l. h i (omega arith)) in let s = h k (omega arith) in omega (arith, mul-suc c k)

pub count_le : (test : ℕ → Bool) (k : ℕ) → count_below k test ≤ k
count_le test k = let r = sum_at_most (λ i. cond (test i) 1 0) 1 k (λ i l. one (test i)) in omega arith
  where
    one : (b : Bool) → cond b 1 0 ≤ 1
    one true = omega arith
    one false = omega arith

pub sum_split : (f : ℕ → ℕ) (a b : ℕ) → sum (a + b) f ≡ sum a f + sum b (λ i. f (a + i))
sum_split f a zero = ap (λ (x : ℕ). sum x f) (add-zero a) ∙ sym (add-zero (sum a f))
sum_split f a (suc b) = ap (λ (x : ℕ). sum x f) (add-suc a b) ∙ let r = sum_split f a b in omega arith

pub sum_plus : (f g : ℕ → ℕ) (k : ℕ) → sum k f + sum k g ≡ sum k (λ i. f i + g i)
sum_plus f g zero = refl
sum_plus f g (suc k) = let a = sum_plus f g k in omega arith

pub sum_const : (c k : ℕ) → sum k (λ i. c) ≡ c * k
sum_const c zero = sym (mul-zero c)
sum_const c (suc k) = let a = sum_const c k in let b = mul-suc c k in omega arith

pub sum_zero : (f : ℕ → ℕ) (k : ℕ) → ((i : ℕ) → i < k → f i ≡ 0) → sum k f ≡ 0
sum_zero f k h = sum_same f (λ i. 0) k h ∙ sum_const 0 k ∙ zero-mul k

-- a sum of which one term alone is not 0
pub sum_only : (f : ℕ → ℕ) (k p : ℕ) → p < k → ((i : ℕ) → (i ≡ p → ⊥) → f i ≡ 0) → sum k f ≡ f p
sum_only f zero p l h = absurd (omega arith)
sum_only f (suc k) p l h =
    ⊎_elim
    (λ m. let a = sum_only f k p m h in let b = h k (omega arith) in omega arith)
    (λ e. let a = sum_zero f k (λ i m. h i (omega arith)) in let b = ap f e in omega arith)
    (below_last p k l)
