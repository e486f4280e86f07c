-- No two values and trails keep the promise of `run`. Assumes nothing.
use mathlib.Core.Path.{◌≡◌, refl, sym, ap, ap₂, ◌∙◌}
use mathlib.Core.List.{List}
use Prim.Native.Nat.{ℕ}
use native.Mathlib.Omega.{arith}
use Rattle.std.specs.Prelude.{Result, Ok, Err}
use Rattle.limits.proofs.Refusals.{one_refused}
use Rattle.limits.specs.Refusals.{number_of}
use Rattle.limits.specs.declared.Refused.{Refused}
use Rattle.ring.specs.declared.Verdict.{Verdict}
use Rattle.ring.specs.Refusals.{found}
use Rattle.ring.proofs.Unique.{one_verdict}
use Rattle.run.specs.Outcome.{heard, ran, refused, said}
use Rattle.run.specs.Run.{run_of, RunPromise}
use Rattle.run.specs.declared.Bus.{Bus}
use Rattle.run.specs.declared.Bus.TheVariants.{Agrees, Differs}
use Rattle.run.specs.declared.Shown.{Shown}
use Rattle.run.specs.declared.Ran as value

one_bus : (a b : Bus) → heard a ≡ heard b → a ≡ b
one_bus Agrees Agrees e = refl
one_bus Agrees (Differs u) e = let z : ◌≡◌ {A = ℕ} 0 1 = cc in absurd (omega arith)
one_bus (Differs t) Agrees e = let z : ◌≡◌ {A = ℕ} 0 1 = cc in absurd (omega arith)
one_bus (Differs t) (Differs u) e = ap Differs (cc)

module _ (bytes t : List ℕ) where
  one_answer : (a b : Result Shown Refused) → said a ≡ (run_of bytes t).outcome → said b ≡ (run_of bytes t).outcome → a ≡ b
  one_answer (Ok a) (Ok b) p q =
      let h : ran (heard a.bus) (found a.verdict) ≡ ran (heard b.bus) (found b.verdict) = p ∙ sym q in
      let e : heard a.bus ≡ heard b.bus = cc in
      let f : found a.verdict ≡ found b.verdict = cc in
      ap₂ (λ (x : Bus) (y : Result Verdict Refused). Ok (record { bus = x; verdict = y })) (one_bus a.bus b.bus e) (one_verdict a.verdict b.verdict f)
  one_answer (Ok a) (Err b) p q = let z : ◌≡◌ {A = ℕ} 0 1 = cc in absurd (omega arith)
  one_answer (Err a) (Ok b) p q = let z : ◌≡◌ {A = ℕ} 0 1 = cc in absurd (omega arith)
  one_answer (Err a) (Err b) p q =
      let h : refused (number_of a.why) a.place ≡ refused (number_of b.why) b.place = p ∙ sym q in
      let n : number_of a.why ≡ number_of b.why = cc in
      let m : a.place ≡ b.place = cc in
      ap Err (one_refused a b n m)

  pub one_run : (x y : value.Ran) (t' t'' : List ℕ) → RunPromise bytes t x t' → RunPromise bytes t y t'' → (x ≡ y) × (t' ≡ t'')
  one_run x y t' t'' p q =
      let a = one_answer x.answer y.answer p.answer q.answer in
      let r = p.ring ∙ sym q.ring in
      let m = p.modules ∙ sym q.modules in
      (λ i. record { answer = a i; ring = r i; modules = m i }, p.trail ∙ sym q.trail)
