-- The engine's test of the fault terms up to a step says what the terms say in words. Assumes nothing.
use mathlib.Core.Bool.{Bool, true, false, not, false≢true, ◌||◌}
use mathlib.Core.Logic.{⊎_elim}
use mathlib.Core.Path.{◌≡◌, refl, sym, ap, ◌∙◌}
use Prim.Native.Nat.{ℕ, ◌+◌, ◌-◌, ◌≤◌, ◌<◌}
use native.Mathlib.Omega.{arith}
use lib.Dec.{leb, ltb, eqb}
use borrow.Author.Tests.{leb-true, leb-false, le-leb, lt-ltb, ltb-true, ltb-false, eqb-false, ne_eqb, not-true}
use Rattle.lists.specs.Kept.{kept}
use Rattle.lists.proofs.Kept.{some_kept}
use Rattle.lists.specs.Counted.{count_below, all_below}
use Rattle.lists.proofs.Tests.{both, and-true, and_of, all_at, all_from}
use Rattle.lists.proofs.Found.{two_counted, counted_two}
use Rattle.terms.specs.Terms.{first_of, faulty_by, distance, apart_by, sound_least, terms_hold}
use Rattle.ring.specs.declared.Ring.{Ring}
use Rattle.demand3.specs.Faults.{FirstFault, Apart, SoundAfter, TwoSound, TermsHold}

-- ---- the test of two seats: are they one, is each faulty by the step, are the first faults far enough

apart_by_lem : {e a b d : Bool} → e ≡ false → a ≡ true → b ≡ true → (e || not a || not b || d) ≡ true → d ≡ true
apart_by_lem i j k h = cc

apart_if : (e a b d : Bool) → (e ≡ false → a ≡ true → b ≡ true → d ≡ true) → (e || not a || not b || d) ≡ true
apart_if true a b d h = refl
apart_if false false b d h = refl
apart_if false true false d h = refl
apart_if false true true d h = h refl refl refl

-- ---- so far apart, and so no less far

pub closer : {a b : ℕ} {r : Ring} {t : ℕ} → Apart a r t → b ≤ a → Apart b r t
closer w l = record { spaced = λ fx fy ne h k. omega (arith, w.spaced fx fy ne h k) }

module _ (r : Ring) (t : ℕ) where
  -- ---- faulty by the step

  abbrev faulty : ℕ → Bool
  faulty = faulty_by r.faults t

  fault_faulty : {x f : ℕ} → FirstFault r x f → f ≤ t → faulty x ≡ true
  fault_faulty {x} y l =
      let e = ap kept y.since in
      and_of (lt-ltb 0 (first_of r.faults x) (omega arith)) (le-leb (first_of r.faults x) (t + 1) (omega arith))

  faulty_fault : (x : ℕ) → x < r.n → faulty x ≡ true → (f : ℕ) × (FirstFault r x f) × (f ≤ t)
  faulty_fault x h e =
      let a = and-true _ _ e in
      let low : 0 < first_of r.faults x = ltb-true _ _ a.0 in
      let high : first_of r.faults x ≤ t + 1 = leb-true _ _ a.1 in
      let f = first_of r.faults x - 1 in
      (f, record { seat = h; since = some_kept _ f (omega arith) }, omega arith)

  sound_after_lem : (p : ℕ) → p < r.n → faulty p ≡ false → SoundAfter r t p
  sound_after_lem p h e = record {
    seat = h;
    later = λ {f} y.
        ⊎_elim (λ l. absurd (false≢true (sym e ∙ fault_faulty y (leb-true f t l)))) (λ l. omega (arith, leb-false f t l)) (both (leb f t));
  }

  after_sound : (p : ℕ) → SoundAfter r t p → faulty p ≡ false
  after_sound p s =
      ⊎_elim
      (λ e. let k = faulty_fault p s.seat e in absurd (omega (arith, s.later k.1, k.2)))
      (λ e. e)
      (both (faulty p))

  -- ---- first faults d + 1 slots apart

  module _ (d : ℕ) where
    abbrev apart : ℕ → ℕ → Bool
    apart = apart_by d r.faults t

    spaced : {x y f g : ℕ} → apart x y ≡ true → FirstFault r x f → FirstFault r y g → (x ≡ y → ⊥) → f ≤ g → g ≤ t → f + (d + 1) ≤ g
    spaced {x} {y} h fx fy ne l m =
        let e = apart_by_lem (ne_eqb x y ne) (fault_faulty fx (omega arith)) (fault_faulty fy m) h in
        omega (arith, leb-true (d + 1) (distance (first_of r.faults x) (first_of r.faults y)) e, ap kept fx.since, ap kept fy.since)

    far : {x y : ℕ} → x < r.n → y < r.n → Apart (d + 1) r t → apart x y ≡ true
    far {x} {y} hx hy w =
        apart_if (eqb x y) (faulty x) (faulty y) _ (λ e a b. le-leb (d + 1) _ (wide (eqb-false x y e) (faulty_fault x hx a) (faulty_fault y hy b)))
      where
        wide : (x ≡ y → ⊥) → (f : ℕ) × (FirstFault r x f) × (f ≤ t) → (g : ℕ) × (FirstFault r y g) × (g ≤ t)
            → d + 1 ≤ distance (first_of r.faults x) (first_of r.faults y)
        wide ne (f, fx, lf) (g, fy, lg) =
            let i = ap kept fx.since in
            let j = ap kept fy.since in
            ⊎_elim
            (λ l. omega (arith, w.spaced fx fy ne (leb-true f g l) lg))
            (λ l. let m : g ≤ f = omega (arith, leb-false f g l) in omega (arith, w.spaced fy fx (λ k. ne (sym k)) m lf))
            (both (leb f g))

    pub all_apart : all_below r.n (λ p. all_below r.n (apart p)) ≡ true → Apart (d + 1) r t
    all_apart h = record {
      spaced = λ {x} {y} fx fy.
          spaced (all_at (apart x) r.n y (all_at (λ p. all_below r.n (apart p)) r.n x h fx.seat) fy.seat) fx fy;
    }

    apart_all : Apart (d + 1) r t → all_below r.n (λ p. all_below r.n (apart p)) ≡ true
    apart_all w = all_from (λ p. all_below r.n (apart p)) r.n (λ x hx. all_from (apart x) r.n (λ y hy. far hx hy w))

  -- ---- two sound seats

  abbrev sound : ℕ → Bool
  sound p = not (faulty p)

  counted_sound : sound_least ≤ count_below r.n sound → TwoSound r t
  counted_sound h =
      let k = counted_two sound r.n h in
      record {
        one = k.0;
        other = k.1;
        differ = λ e. omega (arith, k.2);
        one_sound = sound_after_lem k.0 (omega (arith, k.2, k.3)) (not-true _ k.4);
        other_sound = sound_after_lem k.1 k.3 (not-true _ k.5);
      }

  sound_counted : TwoSound r t → sound_least ≤ count_below r.n sound
  sound_counted k =
      let a : sound k.one ≡ true = ap not (after_sound k.one k.one_sound) in
      let b : sound k.other ≡ true = ap not (after_sound k.other k.other_sound) in
      ⊎_elim
      (λ l. two_counted sound r.n k.one k.other (ltb-true _ _ l) k.other_sound.seat a b)
      (λ l.
      let h : k.other < k.one = omega (arith, ltb-false k.one k.other l, k.differ) in
      two_counted sound r.n k.other k.one h k.one_sound.seat b a)
      (both (ltb k.one k.other))

  -- ---- the terms up to the step

  pub hold_terms : terms_hold r.n r.faults t ≡ true → TermsHold r t
  unfolding terms_hold
  hold_terms h =
      let k = and-true (all_below r.n (λ p. all_below r.n (apart r.n p))) (leb sound_least (count_below r.n sound)) h in
      record { apart = closer (all_apart r.n k.0) (omega arith); sound = counted_sound (leb-true _ _ k.1) }

  pub terms_hold_lem : TermsHold r t → terms_hold r.n r.faults t ≡ true
  unfolding terms_hold
  terms_hold_lem w = and_of (apart_all r.n (closer w.apart (omega arith))) (le-leb sound_least (count_below r.n sound) (sound_counted w.sound))
