-- How many of some entries pass a test: of one holder's, of a step's, and of a trail's. Assumes nothing.
use mathlib.Core.Path.{◌≡◌, refl, sym, ap, ◌∙◌}
use mathlib.Core.Bool.{Bool, true, false, cond}
use mathlib.Core.List.{List, [], ◌∷◌}
use Prim.Native.Nat.{ℕ, ◌+◌, ◌*◌, ◌≤◌, ◌<◌}
use native.Mathlib.Nat.{zero-add}
use native.Mathlib.Omega.{arith}
use lib.ListN.{length, get_or}
use Rattle.lists.specs.Counted.{sum, count_below}
use Rattle.lists.proofs.Counted.{sum_same, sum_split, sum_zero, sum_only}
use Rattle.lists.proofs.Each as each
use Rattle.turn.specs.Table.{Gone}
use Rattle.ring.specs.Step.{gone_at, count_in, trail_after}
use Rattle.trail.specs.Trail.{width}
use Rattle.ring.specs.declared.Ring.{Ring}
use Rattle.turn.specs.declared.Slot.{Slot}
use Rattle.trail.specs.Trail.{record_at}
use Rattle.trail.specs.declared.Record.{Record}
use Rattle.demand2.specs.Records.{passing}
use Rattle.trail.specs.Trail.{no_record, record_of, records_of}
use Rattle.ring.specs.Step.{records_at}
use Rattle.demand2.proofs.Entries.{records_in, records_count, record_before, record_within}

-- ---- the entries of a list that pass

abbrev pub one : Bool → ℕ
one b = cond b 1 0

abbrev pub tally : (Record → Bool) → List Record → ℕ
tally = each.tally no_record

-- the entries of one holder: none passes, or all do
module _ (test : Record → Bool) (time p : ℕ) where
  tally_more : (g : Gone) (gs : List Gone) → tally test (records_of time p (g ∷ gs)) ≡ 0 + one (test (record_of time p g)) + tally test (records_of time p gs)
  tally_more g gs = each.tally_append no_record (record_of time p g ∷ []) (records_of time p gs) test

  tally_none : ((g : Gone) → test (record_of time p g) ≡ false) → (gs : List Gone) → tally test (records_of time p gs) ≡ 0
  tally_none h [] = refl
  tally_none h (g ∷ more) = tally_more g more ∙ let a = tally_none h more in let b = ap one (h g) in omega arith

  pub tally_all : ((g : Gone) → test (record_of time p g) ≡ true) → (gs : List Gone) → tally test (records_of time p gs) ≡ length gs
  tally_all h [] = refl
  tally_all h (g ∷ more) = tally_more g more ∙ let a = tally_all h more in let b = ap one (h g) in omega arith

-- ---- the entries of a step that pass a test of one holder

module _ (r : Ring) (c : Slot) (test : Record → Bool) (p : ℕ) (alone : (e : Record) → (e.holder ≡ p → ⊥) → test e ≡ false) where
  others_none : (q : ℕ) → (q ≡ p → ⊥) → tally test (records_at r c q) ≡ 0
  others_none q n = tally_none test r.time q (λ g. alone (record_of r.time q g) n) (gone_at r c q)

  pub tally_holder : p < r.n → tally test (records_in r c) ≡ tally test (records_at r c p)
  unfolding records_in
  tally_holder l =
      each.tally_joined no_record (records_at r c) test r.n ∙ sum_only (λ q. tally test (records_at r c q)) r.n p l others_none

  pub tally_nobody : r.n ≤ p → tally test (records_in r c) ≡ 0
  unfolding records_in
  tally_nobody l =
      each.tally_joined no_record (records_at r c) test r.n ∙ sum_zero (λ q. tally test (records_at r c q)) r.n (λ q m. others_none q (omega arith))

-- ---- the records of a trail that pass

module _ (test : Record → Bool) where
  pub passing_split : (k m : ℕ) (t : List ℕ) → passing test 0 (k + m) t ≡ passing test 0 k t + passing test k m t
  unfolding passing
  passing_split k m t =
      sum_split (λ i. one (test (record_at t (0 + i)))) k m
      ∙ ap (λ (x : ℕ). sum k (λ i. one (test (record_at t (0 + i)))) + x)
      (sum_same (λ i. one (test (record_at t (0 + (k + i))))) (λ i. one (test (record_at t (k + i)))) m
      (λ i l. ap (λ (x : ℕ). one (test (record_at t x))) (zero-add (k + i))))

  module _ (r : Ring) (c : Slot) (t : List ℕ) (fits : width * (r.records + count_in r c) ≤ length t) where
    pub passing_before : passing test 0 r.records (trail_after r c t) ≡ passing test 0 r.records t
    unfolding passing
    passing_before =
        sum_same (λ i. one (test (record_at (trail_after r c t) (0 + i)))) (λ i. one (test (record_at t (0 + i)))) r.records
        (λ i l. ap (λ (e : Record). one (test e)) (record_before r c t fits (0 + i) (omega arith)))

    pub passing_step : passing test r.records (count_in r c) (trail_after r c t) ≡ tally test (records_in r c)
    unfolding passing
    passing_step =
        sum_same (λ i. one (test (record_at (trail_after r c t) (r.records + i)))) (λ i. one (test (get_or (records_in r c) i no_record))) (count_in r c)
        (λ i l. ap (λ (e : Record). one (test e)) (record_within r c t fits i l))
        ∙ ap (λ (k : ℕ). count_below k (λ i. test (get_or (records_in r c) i no_record))) (sym (records_count r c))
