-- No two results keep one promise: each public promise fixes its whole result. Assumes nothing.
use mathlib.Core.Path.{◌≡◌, refl, sym, ap, ap₂, ◌∙◌}
use mathlib.Core.Bool.{Bool}
use mathlib.Core.List.{List}
use Prim.Native.Nat.{ℕ}
use native.Mathlib.Omega.{arith}
use Rattle.std.specs.Prelude.{⊤, Result, Ok, Err}
use Rattle.limits.proofs.Refusals.{one_refused, one_told}
use Rattle.limits.specs.Refusals.{number_of}
use Rattle.limits.specs.declared.Refused.{Refused}
use Rattle.ring.specs.Refusals.{found}
use Rattle.ring.specs.Promise.{ZeroPromise, FreshPromise, StepPromise, VerdictPromise}
use Rattle.ring.specs.declared.Ring.{Ring}
use Rattle.ring.specs.declared.Stepped.{Stepped}
use Rattle.ring.specs.declared.Judged.{Judged}
use Rattle.ring.specs.declared.Verdict.{Verdict}
use Rattle.ring.specs.declared.Verdict.TheVariants.{Within, Outside}

-- ---- verdicts that say the same are the same

pub one_verdict : (a b : Result Verdict Refused) → found a ≡ found b → a ≡ b
one_verdict (Ok Within) (Ok Within) e = refl
one_verdict (Ok Within) (Ok (Outside t)) e = let z : ◌≡◌ {A = ℕ} 0 1 = cc in absurd (omega arith)
one_verdict (Ok Within) (Err b) e = let z : ◌≡◌ {A = ℕ} 0 1 = cc in absurd (omega arith)
one_verdict (Ok (Outside t)) (Ok Within) e = let z : ◌≡◌ {A = ℕ} 0 1 = cc in absurd (omega arith)
one_verdict (Ok (Outside t)) (Ok (Outside u)) e = ap (λ (x : ℕ). Ok (Outside x)) (cc)
one_verdict (Ok (Outside t)) (Err b) e = let z : ◌≡◌ {A = ℕ} 0 1 = cc in absurd (omega arith)
one_verdict (Err a) (Ok Within) e = let z : ◌≡◌ {A = ℕ} 0 1 = cc in absurd (omega arith)
one_verdict (Err a) (Ok (Outside t)) e = let z : ◌≡◌ {A = ℕ} 0 1 = cc in absurd (omega arith)
one_verdict (Err a) (Err b) e =
    let n : number_of a.why ≡ number_of b.why = cc in
    let p : a.place ≡ b.place = cc in
    ap Err (one_refused a b n p)

-- ---- the promises

same_stepped : {s s' : Stepped} → s.answer ≡ s'.answer → s.ring ≡ s'.ring → s ≡ s'
same_stepped a r = ap₂ (λ (x : Result ⊤ Refused) (y : Ring). record { answer = x; ring = y }) a r

pub one_zero : (r r' : Ring) → ZeroPromise r → ZeroPromise r' → r ≡ r'
one_zero r r' a b = a.ring ∙ sym b.ring

pub one_fresh : (n : ℕ) (s s' : Stepped) → FreshPromise n s → FreshPromise n s' → s ≡ s'
one_fresh n s s' a b = same_stepped (one_told s.answer s'.answer (a.answer ∙ sym b.answer)) (a.ring ∙ sym b.ring)

pub one_step : (r : Ring) (send : Bool) (receive : ℕ) (t : List ℕ) (s s' : Stepped) (t' t'' : List ℕ)
    → StepPromise r send receive t s t' → StepPromise r send receive t s' t'' → (s ≡ s') × (t' ≡ t'')
one_step r send receive t s s' t' t'' a b =
    (same_stepped (one_told s.answer s'.answer (a.answer ∙ sym b.answer)) (a.ring ∙ sym b.ring), a.trail ∙ sym b.trail)

pub one_judged : (r : Ring) (j j' : Judged) → VerdictPromise r j → VerdictPromise r j' → j ≡ j'
one_judged r j j' a b =
    ap₂ (λ (v : Result Verdict Refused) (x : Ring). record { verdict = v; ring = x }) (one_verdict j.verdict j'.verdict (a.verdict ∙ sym b.verdict)) (a.ring ∙ sym b.ring)
