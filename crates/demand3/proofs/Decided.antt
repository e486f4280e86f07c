-- The verdict decides the fault terms, in both directions. Assumes nothing.
use mathlib.Core.Bool.{Bool, true, false, cond, not, false≢true}
use mathlib.Core.Logic.{⊎_elim}
use mathlib.Core.Path.{◌≡◌, refl, sym, ap, ◌∙◌}
use Prim.Native.Nat.{ℕ, ◌<◌}
use native.Mathlib.Omega.{arith}
use lib.Dec.{ltb}
use borrow.Author.Tests.{lt-ltb, le-ltb, ltb-true, ltb-false, not-false}
use Rattle.limits.specs.Limits.{room_most}
use Rattle.lists.specs.Counted.{first_below}
use Rattle.lists.proofs.Tests.{both, first_none, first_is, first_passes, first_before}
use Rattle.ring.specs.Ring.{is_ring}
use Rattle.terms.specs.Terms.{terms_hold, first_failing}
use Rattle.ring.specs.Refusals.{Finding, within, outside, unfit, verdict_found}
use Rattle.ring.specs.declared.Ring.{Ring}
use Rattle.demand3.specs.Faults.{TermsHold}
use Rattle.demand3.specs.Verdict.{TermsKept, FirstFailing, Decides}
use Rattle.demand3.proofs.Tested.{hold_terms, terms_hold_lem}

-- what the verdict says: is it a ring, does a step fail, which is the first

abbrev judged : Bool → Bool → ℕ → Finding
judged ring failing T = cond ring (cond failing (outside T) within) (unfit 10 0)

if_within : (a b : Bool) (T : ℕ) → judged a b T ≡ within → (a ≡ true) × (b ≡ false)
if_within true true T e = (refl, cc)
if_within true false T e = (refl, refl)
if_within false b T e = (cc, cc)

if_outside : (a b : Bool) (T U : ℕ) → judged a b T ≡ outside U → (b ≡ true) × (T ≡ U)
if_outside true true T U e = (refl, cc)
if_outside true false T U e = (cc, cc)
if_outside false b T U e = (cc, cc)

module _ (r : Ring) where
  abbrev fails : ℕ → Bool
  fails t = not (terms_hold r.n r.faults t)

  abbrev first : ℕ
  first = first_below r.time fails

  verdict_is : verdict_found r ≡ judged (is_ring r room_most) (ltb first r.time) first
  unfolding verdict_found first_failing
  verdict_is = refl

  holds_before : (t : ℕ) → t < first → TermsHold r t
  holds_before t l = hold_terms r t (not-false _ (first_before fails r.time t l))

  no_fault : (t : ℕ) → TermsHold r t → fails t ≡ false
  no_fault t w = ap not (terms_hold_lem r t w)

  faults : (t : ℕ) → (TermsHold r t → ⊥) → fails t ≡ true
  faults t no-terms = ⊎_elim (λ e. absurd (no-terms (hold_terms r t e))) (λ e. ap not e) (both (terms_hold r.n r.faults t))

  pub is_ring_lem : verdict_found r ≡ within → is_ring r room_most ≡ true
  is_ring_lem e = (if_within (is_ring r room_most) (ltb first r.time) first (sym verdict_is ∙ e)).0

  within_kept : verdict_found r ≡ within → TermsKept r
  within_kept e t l =
      let b = (if_within (is_ring r room_most) (ltb first r.time) first (sym verdict_is ∙ e)).1 in
      holds_before t (omega (arith, ltb-false first r.time b))

  kept_within : is_ring r room_most ≡ true → TermsKept r → verdict_found r ≡ within
  kept_within a w =
      let f = first_none fails r.time (λ t l. no_fault t (w t l)) in
      verdict_is ∙ rw (a, le-ltb first r.time (omega arith))

  outside_failing : (T : ℕ) → verdict_found r ≡ outside T → FirstFailing r T
  outside_failing T e =
      let k = if_outside (is_ring r room_most) (ltb first r.time) first T (sym verdict_is ∙ e) in
      let l : first < r.time = ltb-true first r.time k.0 in
      record {
        taken = omega (arith, k.1);
        fails = λ w. false≢true (sym (no_fault T w) ∙ ap fails (sym k.1) ∙ first_passes fails r.time l);
        before = λ t h. holds_before t (omega (arith, k.1));
      }

  failing_outside : is_ring r room_most ≡ true → (T : ℕ) → FirstFailing r T → verdict_found r ≡ outside T
  failing_outside a T w =
      let f : first ≡ T = first_is fails r.time T w.taken (faults T w.fails) (λ t l. no_fault t (w.before t l)) in
      let l = w.taken in
      verdict_is ∙ ap (judged (is_ring r room_most) (ltb first r.time)) f ∙ rw (a, lt-ltb first r.time (omega arith))

  pub decides : Decides r
  decides = record { within_kept = within_kept; kept_within = kept_within; outside_failing = outside_failing; failing_outside = failing_outside }
