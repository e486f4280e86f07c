-- The run of a good sheet is the fold of the step's definition over its slots, up to its end or to the slot
-- that ends it. Assumes nothing.
use mathlib.Core.Path.{◌≡◌, refl, sym, ap, ◌∙◌, subst}
use mathlib.Core.List.{List, [], ◌∷◌}
use mathlib.Core.Logic.{⊎_elim}
use Prim.Native.Nat.{ℕ, zero, suc, ◌+◌, ◌<◌}
use native.Mathlib.Omega.{arith}
use lib.Dec.{eqb}
use borrow.Author.Tests.{eqb-true, eqb-false}
use Rattle.limits.specs.Refusals as limits
use Rattle.lists.specs.Counted.{tab}
use Rattle.lists.proofs.Counted.{below_last}
use Rattle.lists.proofs.Tests.{both}
use Rattle.ring.specs.Refusals.{verdict_found}
use Rattle.steps.specs.Run.{Bench, told_on, step_on, fresh_bench, run_on}
use Rattle.limits.proofs.Refusals.{told_is}
use Rattle.steps.proofs.Reached.{fresh_time, step_after, run-append}
use Rattle.sheet.specs.Good.{heard_in}
use Rattle.sheet.specs.declared.Sheet.{Sheet}
use Rattle.run.specs.Marks.{marks_at}
pub use Rattle.run.specs.Along.{bench_at}
use Rattle.run.specs.Outcome.{agrees, differs, Outcome, ran, refused, Result}
use Rattle.run.specs.Run.{spoken_on, judged, run_from, run_sheet}
use Rattle.run.proofs.Running.{marks_on, heard_on, run_ends, run_differs, run_stops, run_goes_on}

-- ---- what is said

-- the bus agrees in slot k, or does not
abbrev pub Agrees : Sheet → List ℕ → ℕ → Type 0
Agrees sheet trail k = spoken_on (marks_at sheet k) (bench_at sheet trail k) ≡ heard_in sheet k

-- a run ends after k steps with this outcome: at the last slot, at the first difference, or with a step that
-- is refused
pub data Ending (sheet : Sheet) (trail : List ℕ) (k : ℕ) : Outcome → Type 0 where
  agreed : k ≡ sheet.slot_count → Ending sheet trail k (ran agrees (verdict_found (bench_at sheet trail k).ring))
  differed : k < sheet.slot_count → (Agrees sheet trail k → ⊥) → Ending sheet trail k (ran (differs k) (verdict_found (bench_at sheet trail k).ring))
  stopped : {number place : ℕ} → k < sheet.slot_count → Agrees sheet trail k → told_on (marks_at sheet k) (bench_at sheet trail k) ≡ limits.refused number place
      → Ending sheet trail k (refused number place)

-- every step before was taken, and the bus agreed
pub record Story (sheet : Sheet) (trail : List ℕ) (x : Result) : Type 0 where
  pub steps : ℕ
  pub time : (bench_at sheet trail steps).ring.time ≡ steps
  pub taken_all : (i : ℕ) → i < steps → told_on (marks_at sheet i) (bench_at sheet trail i) ≡ limits.done
  pub agreed_all : (i : ℕ) → i < steps → Agrees sheet trail i
  pub ending : Ending sheet trail steps x.outcome
  pub ring : x.ring ≡ (bench_at sheet trail steps).ring
  pub written : x.trail ≡ (bench_at sheet trail steps).trail
  pub modules : x.modules ≡ sheet.modules

-- ---- one slot more

module _ (sheet : Sheet) (trail : List ℕ) where
  bench_more : (k : ℕ) → bench_at sheet trail (suc k) ≡ step_on (marks_at sheet k) (bench_at sheet trail k)
  unfolding run_on
  bench_more k = run-append (tab k (marks_at sheet)) (marks_at sheet k ∷ []) (fresh_bench sheet.n trail)

  -- the first k slots
  record Upto (k : ℕ) : Type 0 where
    time : (bench_at sheet trail k).ring.time ≡ k
    took : (i : ℕ) → i < k → told_on (marks_at sheet i) (bench_at sheet trail i) ≡ limits.done
    agree : (i : ℕ) → i < k → Agrees sheet trail i

  upto_more : (k : ℕ) → Upto k → told_on (marks_at sheet k) (bench_at sheet trail k) ≡ limits.done → Agrees sheet trail k → Upto (suc k)
  upto_more k u t a =
      let e = ap (λ (b : Bench). b.ring.time) (bench_more k ∙ step_after (marks_at sheet k) (bench_at sheet trail k) t) in
      let n = u.time in
      record {
        time = omega arith;
        took = λ i l. ⊎_elim (λ h. u.took i h) (λ q. rw q t) (below_last i k l);
        agree = λ i l. ⊎_elim (λ h. u.agree i h) (λ q. rw q a) (below_last i k l);
      }

  -- ---- the rest of the run

  tells : (left k : ℕ) → left + k ≡ sheet.slot_count → Upto k → Story sheet trail (run_from left sheet (bench_at sheet trail k))
  tells zero k e u =
      subst (Story sheet trail) (sym (run_ends sheet (bench_at sheet trail k)))
      (record { steps = k; time = u.time; taken_all = u.took; agreed_all = u.agree; ending = agreed (omega arith); ring = refl; written = refl; modules = refl })
  tells (suc left) k e u =
      let b = bench_at sheet trail k in
      let same : spoken_on (marks_on sheet b) b ≡ spoken_on (marks_at sheet k) b = ap (λ (t : ℕ). spoken_on (marks_at sheet t) b) u.time in
      let line : heard_on sheet b ≡ heard_in sheet k = ap (heard_in sheet) u.time in
      let answer : told_on (marks_on sheet b) b ≡ told_on (marks_at sheet k) b = ap (λ (t : ℕ). told_on (marks_at sheet t) b) u.time in
      ⊎_elim
      (λ p.
      let a : Agrees sheet trail k = sym same ∙ eqb-true _ _ p ∙ line in
      ⊎_elim
      (λ t.
      let next : step_on (marks_on sheet b) b ≡ bench_at sheet trail (suc k) = ap (λ (x : ℕ). step_on (marks_at sheet x) b) u.time ∙ sym (bench_more k) in
      subst (Story sheet trail) (sym (run_goes_on sheet b left p t ∙ ap (run_from left sheet) next))
      (tells left (suc k) (omega arith) (upto_more k u (sym answer ∙ t) a)))
      (λ t. subst (Story sheet trail) (sym (run_stops sheet b left p t.2))
      (record { steps = k; time = u.time; taken_all = u.took; agreed_all = u.agree; ending = stopped (omega arith) a (sym answer ∙ t.2); ring = refl; written = refl; modules = refl }))
      (told_is (told_on (marks_on sheet b) b)))
      (λ p.
      let n : Agrees sheet trail k → ⊥ = λ a. eqb-false _ _ p (same ∙ a ∙ sym line) in
      subst (Story sheet trail) (sym (run_differs sheet b left p ∙ ap (λ (t : ℕ). judged sheet b (differs t)) u.time))
      (record { steps = k; time = u.time; taken_all = u.took; agreed_all = u.agree; ending = differed (omega arith) n; ring = refl; written = refl; modules = refl }))
      (both (eqb (spoken_on (marks_on sheet b) b) (heard_on sheet b)))

  -- ---- the whole run

  pub run_story : Story sheet trail (run_sheet sheet trail)
  unfolding run_on
  run_story = tells sheet.slot_count zero (omega arith) (record { time = fresh_time sheet.n; took = λ i l. absurd (omega arith); agree = λ i l. absurd (omega arith) })
