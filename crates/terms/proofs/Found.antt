-- The search finds the first step up to which the fault terms fail. Assumes nothing.
use mathlib.Core.Path.{◌≡◌, refl, sym, ap, ap₂, ◌∙◌}
use mathlib.Core.Bool.{Bool, true, false, cond, not, true≢false, ◌&&◌, ◌||◌}
use mathlib.Core.List.{List, [], ◌∷◌}
use mathlib.Core.Logic.{◌⊎◌, inl, inr, ⊎_elim}
use Prim.Native.Nat.{ℕ, zero, suc, ◌+◌, ◌-◌, ◌≤◌, ◌<◌, min}
use native.Mathlib.Nat.{le_refl, zero-add}
use native.Mathlib.Numerals.{add-one}
use native.Mathlib.Omega.{arith}
use lib.Dec.{leb, ltb, eqb}
use lib.ListN.{length, get_or, take}
use lib.Seq.{ext_get_or}
use Rattle.std.proofs.Common.{Option, Some, None}
use Rattle.std.specs.List.{list_all, enumerate_from, filter_map, cons_option, reduce, fold, count_by}
use Rattle.std.proofs.lemmas.List.{get_or-take, length-take}
use Rattle.std.proofs.lemmas.List.Elements.{All-from_get_or}
use Rattle.std.proofs.lemmas.List.Folds.{list_all_at}
use Rattle.std.proofs.lemmas.List.FromFn.{length-enumerate_from, get_or-enumerate_from}
use Rattle.std.proofs.lemmas.List.Sums.{list_all-from_AllPass, sum_by-cons}
use borrow.Author.Tests.{lt-ltb, le-leb, lt-leb, ne_eqb, ltb-true, leb-true, leb-false, eqb-false, not-false}
use Rattle.lists.specs.Counted.{tab, sum, all_below, count_below}
use Rattle.lists.proofs.Counted.{length-tab, get_or-tab, sum_same, sum_split, sum_mono, below_last}
use Rattle.lists.proofs.Tests.{both, and-true, and-false, and_fails, and_of, all_at, all_fails, all_not, first_none, first_is}
use Rattle.lists.specs.Kept.{kept}
use Rattle.terms.specs.Terms.{first_of, faulty_by, distance, apart_by, terms_hold, first_failing}
use Rattle.terms.specs.Search.{by_step, too_close, keeps_apart, sound_after, holds_with, failing_at, first_found}

-- ---- what chains of a slice make, place by place

module _ {A : Type 0} (d : A) (t : ℕ × A → Bool) (xs : List A) where
  abbrev at_place : ℕ → Bool
  at_place q = t (q, get_or xs q d)

  place_is : (q : ℕ) → q < length xs → t (get_or (enumerate_from 0 xs) q (0, d)) ≡ at_place q
  place_is q l = ap t (get_or-enumerate_from 0 xs q (0, d) l ∙ ap (λ (x : ℕ). (x, get_or xs q d)) (zero-add q))

  all_listed : list_all t (enumerate_from 0 xs) ≡ all_below (length xs) at_place
  all_listed = ⊎_elim passes fails (both (all_below (length xs) at_place))
    where
      fails : all_below (length xs) at_place ≡ false → list_all t (enumerate_from 0 xs) ≡ all_below (length xs) at_place
      fails e =
          let r = all_not at_place (length xs) e in
          list_all_at t (enumerate_from 0 xs) r.0 (0, d) (omega (arith, r.1, length-enumerate_from 0 xs)) (place_is r.0 r.1 ∙ r.2) ∙ sym e

      passes : all_below (length xs) at_place ≡ true → list_all t (enumerate_from 0 xs) ≡ all_below (length xs) at_place
      passes e =
          list_all-from_AllPass t (enumerate_from 0 xs)
          (All-from_get_or (λ x. t x ≡ true) (enumerate_from 0 xs) (0, d) (λ q l.
          let m : q < length xs = omega (arith, l, length-enumerate_from 0 xs) in
          place_is q m ∙ all_at at_place (length xs) q e m))
          ∙ sym e

count_listed : {A : Type 0} (d : A) (t : A → Bool) (xs : List A) → count_by t xs ≡ count_below (length xs) (λ q. t (get_or xs q d))
count_listed d t [] = refl
count_listed d t (x ∷ xs) =
    let f : ℕ → ℕ = λ q. cond (t (get_or (x ∷ xs) q d)) 1 0 in
    let next : sum (length xs) (λ q. f (1 + q)) ≡ count_below (length xs) (λ q. t (get_or xs q d)) =
    sum_same (λ q. f (1 + q)) (λ q. cond (t (get_or xs q d)) 1 0) (length xs)
    (λ q l. let e : 1 + q ≡ suc q = omega arith in ap f e) in
    let e : 1 + length xs ≡ suc (length xs) = omega arith in
    let u : count_by t (x ∷ xs) ≡ cond (t x) 1 0 + count_by t xs = sum_by-cons (λ y. cond (t y) 1 0) x xs in
    omega (arith, u, count_listed d t xs, next, sum_split f 1 (length xs), ap (λ (k : ℕ). sum k f) e)

-- what the loop over the seats looks at, seat by seat
module _ (faults : List (Option ℕ)) (p f : ℕ) where
  abbrev pub apart_at : ℕ → Bool
  apart_at q = eqb q p || not (too_close (length faults) f (get_or faults q None))

  abbrev pub sound_at : ℕ → Bool
  sound_at q = not (by_step f (get_or faults q None))

  pub holds_at : holds_with faults p f ≡ (all_below (length faults) apart_at && leb 2 (count_below (length faults) sound_at))
  holds_at =
      ap₂ (λ (a : Bool) (k : ℕ). a && leb 2 k)
      (all_listed None (λ x. eqb x.0 p || not (too_close (length faults) f x.1)) faults)
      (count_listed None (λ g. not (by_step f g)) faults)

all_same : (f g : ℕ → Bool) (k : ℕ) → ((i : ℕ) → i < k → f i ≡ g i) → all_below k f ≡ all_below k g
all_same f g zero h = refl
all_same f g (suc k) h = ap₂ (λ (a b : Bool). a && b) (all_same f g k (λ i l. h i (omega arith))) (h k (omega arith))

-- ---- the least of those that a chain keeps

fold_start : (a : ℕ) (xs : List ℕ) → fold min a xs ≤ a
fold_start a [] = le_refl a
fold_start a (x ∷ xs) = omega (arith, fold_start (min a x) xs)

fold_le : (a : ℕ) (xs : List ℕ) (k : ℕ) → k < length xs → fold min a xs ≤ get_or xs k 0
fold_le a [] k l = absurd (omega arith)
fold_le a (x ∷ xs) zero l = omega (arith, fold_start (min a x) xs)
fold_le a (x ∷ xs) (suc k) l = fold_le (min a x) xs k (omega arith)

fold_one : (a : ℕ) (xs : List ℕ) → (fold min a xs ≡ a) ⊎ ((k : ℕ) × (k < length xs) × (get_or xs k 0 ≡ fold min a xs))
fold_one a [] = inl refl
fold_one a (x ∷ xs) = ⊎_elim (λ e. start e (both (leb a x))) (λ r. inr (suc r.0, omega (arith, r.1), r.2)) (fold_one (min a x) xs)
  where
    start : fold min (min a x) xs ≡ min a x → (leb a x ≡ true) ⊎ (leb a x ≡ false)
        → (fold min (min a x) xs ≡ a) ⊎ ((k : ℕ) × (k < length (x ∷ xs)) × (get_or (x ∷ xs) k 0 ≡ fold min (min a x) xs))
    start e (inl b) = inl (omega (arith, leb-true a x b))
    start e (inr b) = inr (0, omega arith, omega (arith, leb-false a x b))

least_le : (xs : List ℕ) (k : ℕ) → k < length xs → (m : ℕ) × (reduce min xs ≡ Some m) × (m ≤ get_or xs k 0)
least_le [] k l = absurd (omega arith)
least_le (x ∷ xs) zero l = (fold min x xs, refl, fold_start x xs)
least_le (x ∷ xs) (suc k) l = (fold min x xs, refl, fold_le x xs k (omega arith))

least_one : (xs : List ℕ) (m : ℕ) → reduce min xs ≡ Some m → (k : ℕ) × (k < length xs) × (get_or xs k 0 ≡ m)
least_one [] m e = absurd (cc)
least_one (x ∷ xs) m e =
    let f : fold min x xs ≡ m = cc in
    ⊎_elim (λ a. (0, omega arith, sym a ∙ f)) (λ r. (suc r.0, omega (arith, r.1), r.2 ∙ f)) (fold_one x xs)

module _ {A : Type 0} (h : ℕ × A → Option ℕ) (none : ℕ × A) where
  there : (ys : List (ℕ × A)) (i v : ℕ) → i < length ys → h (get_or ys i none) ≡ Some v
      → (k : ℕ) × (k < length (filter_map h ys)) × (get_or (filter_map h ys) k 0 ≡ v)
  there [] i v l e = absurd (omega arith)
  there (y ∷ ys) zero v l e = rw e (0, omega arith, refl)
  there (y ∷ ys) (suc i) v l e = further (h y) (there ys i v (omega arith) e)
    where
      further : (o : Option ℕ) → (k : ℕ) × (k < length (filter_map h ys)) × (get_or (filter_map h ys) k 0 ≡ v)
          → (k : ℕ) × (k < length (cons_option o (filter_map h ys))) × (get_or (cons_option o (filter_map h ys)) k 0 ≡ v)
      further None r = r
      further (Some u) r = (suc r.0, omega (arith, r.1), r.2)

  there_from : (ys : List (ℕ × A)) (k : ℕ) → k < length (filter_map h ys)
      → (i : ℕ) × (i < length ys) × (h (get_or ys i none) ≡ Some (get_or (filter_map h ys) k 0))
  there_from [] k l = absurd (omega arith)
  there_from (y ∷ ys) k l = go (h y) refl k l (λ j m. there_from ys j m)
    where
      go : (o : Option ℕ) → h y ≡ o → (j : ℕ) → j < length (cons_option o (filter_map h ys))
          → ((j : ℕ) → j < length (filter_map h ys) → (i : ℕ) × (i < length ys) × (h (get_or ys i none) ≡ Some (get_or (filter_map h ys) j 0)))
          → (i : ℕ) × (i < length (y ∷ ys)) × (h (get_or (y ∷ ys) i none) ≡ Some (get_or (cons_option o (filter_map h ys)) j 0))
      go None e j m further = let r = further j m in (suc r.0, omega (arith, r.1), r.2)
      go (Some u) e zero m further = (0, omega arith, e)
      go (Some u) e (suc j) m further = let r = further j (omega arith) in (suc r.0, omega (arith, r.1), r.2)

-- ---- first faults as numbers: one more than the time, and 0 for none

-- the first fault g is by the step of the fault f
abbrev by_then : ℕ → ℕ → Bool
by_then f g = ltb 0 g && leb g f

-- and less than n + 1 slots before it
abbrev near : ℕ → ℕ → ℕ → Bool
near n f g = by_then f g && leb (f - g) n

one_more : (g f : ℕ) → leb (g + 1) (f + 1) ≡ leb g f
one_more g f =
    ⊎_elim
    (λ e. le-leb (g + 1) (f + 1) (omega (arith, leb-true g f e)) ∙ sym e)
    (λ e. lt-leb (g + 1) (f + 1) (omega (arith, leb-false g f e)) ∙ sym e)
    (both (leb g f))

by_is : (f : ℕ) (g : Option ℕ) → by_step f g ≡ by_then (f + 1) (kept g)
by_is f None = refl
by_is f (Some g) = rw (lt-ltb 0 (g + 1) (omega arith), one_more g f) refl

near_is : (n f : ℕ) (g : Option ℕ) → too_close n f g ≡ near n (f + 1) (kept g)
near_is n f None = refl
near_is n f (Some g) =
    let e : f + 1 - (g + 1) ≡ f - g = omega arith in
    rw (lt-ltb 0 (g + 1) (omega arith), one_more g f, e) refl

-- ---- an `or` that fails

or_fails : (a b : Bool) → (a || b) ≡ false → (a ≡ false) × (b ≡ false)
or_fails true b e = absurd (true≢false e)
or_fails false b e = (refl, e)

module _ (n : ℕ) (faults : List (Option ℕ)) where
  abbrev fault : ℕ → ℕ
  fault = first_of faults

  -- seat q keeps its first fault apart from that of p: it is p, or is not too close to it
  abbrev apart_of : ℕ → ℕ → Bool
  apart_of p q = eqb q p || not (near n (fault p) (fault q))

  -- how many seats are sound after the step of the fault f
  abbrev sound_with : ℕ → ℕ
  sound_with f = count_below n (λ q. not (by_then f (fault q)))

  -- the terms hold up to the step of p's first fault, as far as that fault is concerned
  unfoldable holds : ℕ → Bool
  holds p = all_below n (apart_of p) && leb 2 (sound_with (fault p))

  -- first faults f of p and g of q, both by the step of f: too close
  record Close (p q : ℕ) : Type 0 where
    other : p ≡ q → ⊥
    some : 0 < fault q
    order : fault q ≤ fault p
    near : fault p - fault q ≤ n

  -- ---- what fails with a fault, fails up to its step

  close_fails : (p q t : ℕ) → fault p ≡ suc t → Close p q → apart_by n faults t p q ≡ false
  close_fails p q t e c =
      rw (ne_eqb p q c.other, lt-ltb 0 (fault p) (omega arith), le-leb (fault p) (t + 1) (omega arith), lt-ltb 0 (fault q) c.some, le-leb (fault q) (t + 1) (omega (arith, c.order)), lt-leb (n + 1) (distance (fault p) (fault q)) (omega (arith, c.near, c.order)))

  apart_close : (p q : ℕ) → apart_of p q ≡ false → Close p q
  apart_close p q e =
      let a = or_fails (eqb q p) (not (near n (fault p) (fault q))) e in
      let b = and-true (by_then (fault p) (fault q)) (leb (fault p - fault q) n) (not-false _ a.1) in
      let c = and-true (ltb 0 (fault q)) (leb (fault q) (fault p)) b.0 in
      record { other = λ i. eqb-false q p a.0 (sym i); some = ltb-true _ _ c.0; order = leb-true _ _ c.1; near = leb-true _ _ b.1 }

  close_apart : (p q : ℕ) → Close p q → apart_of p q ≡ false
  close_apart p q c =
      rw (ne_eqb q p (λ i. c.other (sym i)), lt-ltb 0 (fault q) c.some, le-leb (fault q) (fault p) c.order, le-leb (fault p - fault q) n c.near)

  -- the seats that are sound after a step, counted either way
  same_sound : (p t : ℕ) → fault p ≡ suc t → sound_with (fault p) ≡ count_below n (λ q. not (faulty_by faults t q))
  same_sound p t e = ap (λ (x : ℕ). sound_with x) (e ∙ sym (add-one t))

  fails_up_to : (p t : ℕ) → p < n → fault p ≡ suc t → holds p ≡ false → terms_hold n faults t ≡ false
  unfolding holds terms_hold
  fails_up_to p t l e h = ⊎_elim pair count (and_fails (all_below n (apart_of p)) (leb 2 (sound_with (fault p))) h)
    where
      pair : all_below n (apart_of p) ≡ false → terms_hold n faults t ≡ false
      pair a =
          let r = all_not (apart_of p) n a in
          let b = all_fails (apart_by n faults t p) n r.0 r.1 (close_fails p r.0 t e (apart_close p r.0 r.2)) in
          rw (all_fails (λ q. all_below n (apart_by n faults t q)) n p l b)

      count : leb 2 (sound_with (fault p)) ≡ false → terms_hold n faults t ≡ false
      count a =
          let b : leb 2 (count_below n (λ q. not (faulty_by faults t q))) ≡ false = ap (leb 2) (sym (same_sound p t e)) ∙ a in
          rw b (and-false (all_below n (λ q. all_below n (apart_by n faults t q))))

  -- ---- what fails up to a step, fails with a fault by it

  record Fails (t : ℕ) : Type 0 where
    seat : ℕ
    below : seat < n
    some : 0 < fault seat
    by : fault seat ≤ t + 1
    fails : holds seat ≡ false

  record Faulty (t p : ℕ) : Type 0 where
    some : 0 < fault p
    by : fault p ≤ t + 1

  is_faulty : (t p : ℕ) → faulty_by faults t p ≡ true → Faulty t p
  is_faulty t p e = let a = and-true (ltb 0 (fault p)) (leb (fault p) (t + 1)) e in record { some = ltb-true _ _ a.0; by = leb-true _ _ a.1 }

  with_close : (t p q : ℕ) → p < n → q < n → Faulty t p → Close p q → Fails t
  unfolding holds
  with_close t p q l m f c = record {
    seat = p;
    below = l;
    some = f.some;
    by = f.by;
    fails = rw (all_fails (apart_of p) n q m (close_apart p q c));
  }

  with_pair : (t p q : ℕ) → p < n → q < n → apart_by n faults t p q ≡ false → Fails t
  with_pair t p q l m e =
      let a = or_fails (eqb p q || not (faulty_by faults t p) || not (faulty_by faults t q)) (leb (n + 1) (distance (fault p) (fault q))) e in
      let b = or_fails (eqb p q || not (faulty_by faults t p)) (not (faulty_by faults t q)) a.0 in
      let c = or_fails (eqb p q) (not (faulty_by faults t p)) b.0 in
      let d = leb-false (n + 1) (distance (fault p) (fault q)) a.1 in
      let u = is_faulty t p (not-false _ c.1) in
      let v = is_faulty t q (not-false _ b.1) in
      let i = eqb-false p q c.0 in
      ⊎_elim
      (λ o. with_close t p q l m u (record { other = i; some = v.some; order = leb-true _ _ o; near = omega arith }))
      (λ o. let w = leb-false (fault q) (fault p) o in with_close t q p m l v (record { other = λ x. i (sym x); some = u.some; order = omega arith; near = omega arith }))
      (both (leb (fault q) (fault p)))

  -- of the seats below k that are faulty by a step, the latest; or there is none
  data Latest (t k : ℕ) : Type 0 where
    nobody : ((q : ℕ) → q < k → faulty_by faults t q ≡ false) → Latest t k
    latest : (p : ℕ) → p < k → Faulty t p → ((q : ℕ) → q < k → faulty_by faults t q ≡ true → fault q ≤ fault p) → Latest t k

  find_latest : (t k : ℕ) → Latest t k
  find_latest t zero = nobody (λ q l. absurd (omega arith))
  find_latest t (suc k) = go (find_latest t k) (both (faulty_by faults t k))
    where
      more : (p : ℕ) → fault k ≤ fault p → ((q : ℕ) → q < k → faulty_by faults t q ≡ true → fault q ≤ fault p)
          → (q : ℕ) → q < suc k → faulty_by faults t q ≡ true → fault q ≤ fault p
      more p h m q l e = ⊎_elim (λ x. m q x e) (λ i. let g = ap fault i in omega arith) (below_last q k l)

      go : Latest t k → (faulty_by faults t k ≡ true) ⊎ (faulty_by faults t k ≡ false) → Latest t (suc k)
      go (nobody m) (inl e) = latest k (omega arith) (is_faulty t k e) (more k (le_refl (fault k)) (λ q l x. absurd (true≢false (sym x ∙ m q l))))
      go (nobody m) (inr e) = nobody (λ q l. ⊎_elim (λ x. m q x) (λ i. ap (faulty_by faults t) i ∙ e) (below_last q k l))
      go (latest p l f m) (inl e) =
          ⊎_elim
          (λ o. latest p (omega arith) f (more p (leb-true _ _ o) m))
          (λ o. let w = leb-false (fault k) (fault p) o in latest k (omega arith) (is_faulty t k e) (more k (le_refl (fault k)) (λ q x y. let z = m q x y in omega arith)))
          (both (leb (fault k) (fault p)))
      go (latest p l f m) (inr e) = latest p (omega arith) f (λ q x y. ⊎_elim (λ z. m q z y) (λ i. absurd (true≢false (sym y ∙ ap (faulty_by faults t) i ∙ e))) (below_last q k x))

  one_or_none : (a b : Bool) → (a ≡ true → b ≡ true) → cond (not b) 1 0 ≤ cond (not a) 1 0
  one_or_none true b h = rw (h refl) (le_refl 0)
  one_or_none false true h = omega arith
  one_or_none false false h = le_refl 1

  all_sound : (t k : ℕ) → ((q : ℕ) → q < k → faulty_by faults t q ≡ false) → k ≤ count_below k (λ q. not (faulty_by faults t q))
  all_sound t zero h = le_refl 0
  all_sound t (suc k) h = let r = all_sound t k (λ q l. h q (omega arith)) in rw (h k (omega arith)) (omega arith)

  with_count : (t : ℕ) → 2 ≤ n → leb 2 (count_below n (λ q. not (faulty_by faults t q))) ≡ false → Fails t
  unfolding holds
  with_count t two e = go (find_latest t n)
    where
      few : count_below n (λ q. not (faulty_by faults t q)) < 2
      few = leb-false 2 (count_below n (λ q. not (faulty_by faults t q))) e

      go : Latest t n → Fails t
      go (nobody m) = absurd (omega (arith, few, all_sound t n m))
      go (latest p l f m) =
          let s = sum_mono (λ q. cond (not (by_then (fault p) (fault q))) 1 0) (λ q. cond (not (faulty_by faults t q)) 1 0) n
          (λ q x. one_or_none (faulty_by faults t q) (by_then (fault p) (fault q))
          (λ y. and_of (lt-ltb 0 (fault q) (is_faulty t q y).some) (le-leb (fault q) (fault p) (m q x y)))) in
          let b = lt-leb 2 (sound_with (fault p)) (omega (arith, few)) in
          record { seat = p; below = l; some = f.some; by = f.by; fails = rw b (and-false (all_below n (apart_of p))) }

  fails_with : (t : ℕ) → 2 ≤ n → terms_hold n faults t ≡ false → Fails t
  unfolding terms_hold
  fails_with t two h = ⊎_elim pair (with_count t two) (and_fails (all_below n (λ p. all_below n (apart_by n faults t p))) (leb 2 (count_below n (λ q. not (faulty_by faults t q)))) h)
    where
      pair : all_below n (λ p. all_below n (apart_by n faults t p)) ≡ false → Fails t
      pair a =
          let r = all_not (λ p. all_below n (apart_by n faults t p)) n a in
          let s = all_not (apart_by n faults t r.0) n r.2 in
          with_pair t r.0 s.0 r.1 s.1 s.2

  -- ---- the first of them

  -- the first faults of the n seats
  abbrev pub firsts : List (Option ℕ)
  firsts = tab n (λ p. get_or faults p None)

  long_is : length firsts ≡ n
  long_is = length-tab n (λ p. get_or faults p None)

  seat_of : (p : ℕ) → p < n → get_or firsts p None ≡ get_or faults p None
  seat_of p l = get_or-tab n (λ q. get_or faults q None) None p l

  module _ (p f : ℕ) (here : get_or faults p None ≡ Some f) where
    fault_is : fault p ≡ f + 1
    fault_is = ap kept here

    apart_is : keeps_apart firsts p f ≡ all_below n (apart_of p)
    apart_is =
        all_listed None (λ x. eqb x.0 p || not (too_close (length firsts) f x.1)) firsts
        ∙ ap (λ (k : ℕ). all_below k (λ q. eqb q p || not (too_close k f (get_or firsts q None)))) long_is
        ∙ all_same (λ q. eqb q p || not (too_close n f (get_or firsts q None))) (apart_of p) n
        (λ q l. ap (λ (b : Bool). eqb q p || not b)
        (ap (too_close n f) (seat_of q l) ∙ near_is n f (get_or faults q None) ∙ ap (λ (x : ℕ). near n x (fault q)) (sym fault_is)))

    sound_is : sound_after firsts f ≡ sound_with (fault p)
    sound_is =
        count_listed None (λ g. not (by_step f g)) firsts
        ∙ ap (λ (k : ℕ). count_below k (λ q. not (by_step f (get_or firsts q None)))) long_is
        ∙ sum_same (λ q. cond (not (by_step f (get_or firsts q None))) 1 0) (λ q. cond (not (by_then (fault p) (fault q))) 1 0) n
        (λ q l. ap (λ (b : Bool). cond (not b) 1 0)
        (ap (by_step f) (seat_of q l) ∙ by_is f (get_or faults q None) ∙ ap (λ (x : ℕ). by_then x (fault q)) (sym fault_is)))

    holds_is : holds_with firsts p f ≡ holds p
    unfolding holds
    holds_is = ap₂ (λ (a : Bool) (k : ℕ). a && leb 2 k) apart_is sound_is

  abbrev failing_in : ℕ × Option ℕ → Option ℕ
  failing_in x = failing_at firsts x.0 x.1

  seat_is : (p : ℕ) → p < n → failing_in (get_or (enumerate_from 0 firsts) p (0, None)) ≡ failing_at firsts p (get_or faults p None)
  seat_is p l =
      ap failing_in (get_or-enumerate_from 0 firsts p (0, None) (omega (arith, long_is)) ∙ ap₂ (λ (a : ℕ) (b : Option ℕ). (a, b)) (zero-add p) (seat_of p l))

  -- what fails with a fault is not before the first found
  found_le : (p : ℕ) → p < n → 0 < fault p → holds p ≡ false → (m : ℕ) × (first_found firsts ≡ Some m) × (m + 1 ≤ fault p)
  found_le p l h e = go (get_or faults p None) refl
    where
      go : (o : Option ℕ) → get_or faults p None ≡ o → (m : ℕ) × (first_found firsts ≡ Some m) × (m + 1 ≤ fault p)
      go None i = absurd (omega (arith, ap kept i))
      go (Some f) i =
          let s : failing_in (get_or (enumerate_from 0 firsts) p (0, None)) ≡ Some f = rw (seat_is p l, i, holds_is p f i, e) refl in
          let r = there failing_in (0, None) (enumerate_from 0 firsts) p f (omega (arith, length-enumerate_from 0 firsts, long_is)) s in
          let m = least_le (filter_map failing_in (enumerate_from 0 firsts)) r.0 r.1 in
          (m.0, m.1, omega (arith, m.2, r.2, ap kept i))

  -- and the first found is one of them
  found_one : (m : ℕ) → first_found firsts ≡ Some m → (p : ℕ) × (p < n) × (fault p ≡ suc m) × (holds p ≡ false)
  found_one m e =
      let r = least_one (filter_map failing_in (enumerate_from 0 firsts)) m e in
      let s = there_from failing_in (0, None) (enumerate_from 0 firsts) r.0 r.1 in
      let l : s.0 < n = omega (arith, s.1, length-enumerate_from 0 firsts, long_is) in
      go s.0 l (sym (seat_is s.0 l) ∙ s.2 ∙ ap (λ (x : ℕ). Some x) r.2) (get_or faults s.0 None) refl
    where
      told : (p f : ℕ) (here : get_or faults p None ≡ Some f) (b : Bool) → holds p ≡ b → cond (not b) (Some f) None ≡ Some m → p < n
          → (p : ℕ) × (p < n) × (fault p ≡ suc m) × (holds p ≡ false)
      told p f here true h i l = absurd (cc)
      told p f here false h i l = let q : f ≡ m = cc in (p, l, omega (arith, ap kept here, q), h)

      go : (p : ℕ) → p < n → failing_at firsts p (get_or faults p None) ≡ Some m → (o : Option ℕ) → get_or faults p None ≡ o
          → (p : ℕ) × (p < n) × (fault p ≡ suc m) × (holds p ≡ false)
      go p l i None h = let z = rw h at i in absurd (cc)
      go p l i (Some f) h = told p f h (holds p) refl (rw (h, holds_is p f h) at i) l

  module _ (two : 2 ≤ n) (time : ℕ) where
    abbrev failing : ℕ → Bool
    failing t = not (terms_hold n faults t)

    -- up to a step before the first found the terms hold
    holds_before : (t : ℕ) → ((m : ℕ) → first_found firsts ≡ Some m → t < m) → failing t ≡ false
    holds_before t h = ⊎_elim (λ e. ap not e) (λ e. bad (fails_with t two e)) (both (terms_hold n faults t))
      where
        bad : Fails t → failing t ≡ false
        bad w = let r = found_le w.seat w.below w.some w.fails in absurd (omega (arith, h r.0 r.1, r.2, w.by))

    -- nothing is found before the time exactly where the terms hold up to every step before it
    pub none_found : ((m : ℕ) → first_found firsts ≡ Some m → time ≤ m) → first_failing n faults time ≡ time
    unfolding first_failing
    none_found late = first_none failing time (λ t l. holds_before t (λ m e. omega (arith, late m e)))

    -- what is found before the time is the first step up to which they fail
    pub one_found : (m : ℕ) → first_found firsts ≡ Some m → m < time → first_failing n faults time ≡ m
    unfolding first_failing
    one_found m e l =
        let r = found_one m e in
        first_is failing time m l (ap not (fails_up_to r.0 m r.1 r.2 r.3)) (λ j i. holds_before j (λ k h. let q : k ≡ m = cc in omega arith))

-- the slice that the code searches, where there are so many
pub slice_is : (n : ℕ) (faults : List (Option ℕ)) → n ≤ length faults → take n faults ≡ firsts n faults
slice_is n faults h =
    let e : length (take n faults) ≡ n = omega (arith, length-take n faults) in
    ext_get_or None (take n faults) (firsts n faults) (e ∙ sym (long_is n faults))
    (λ p l. let m : p < n = omega (arith, e) in get_or-take n faults p None m ∙ sym (seat_of n faults p m))
