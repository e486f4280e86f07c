-- Demand 3, over the engine: every run within the fault terms keeps its sound seats in agreement. Assumes
-- nothing. The argument: Model has the ring over functions of the seats, Seat what a step does to one of
-- them, Invariant what holds along a run; Moves and the five kinds of step (Sent, Missed, Spoken, Removed,
-- Idle) keep it, by Kept; Agrees reads agreement off it. View shows that the engine's step is the model's,
-- and Along follows a run; Tested and Decided are the verdict; Read and Before go back to the ring.
use mathlib.Core.List.{List, [], ◌∷◌}
use mathlib.Core.Logic.{⊎_elim}
use mathlib.Core.Path.{◌≡◌, sym, ap, ◌∙◌}
use Prim.Native.Nat.{ℕ, ◌+◌, ◌≤◌}
use Rattle.limits.specs.Limits.{seats_least, seats_most}
use Rattle.ring.specs.Refusals.{verdict_found, within}
use Rattle.steps.specs.Run.{Marks, Bench, told_on, step_on, fresh_bench, Reached, start, run_on}
use Rattle.limits.proofs.Refusals.{told_is}
use Rattle.steps.proofs.Reached.{reached_stands, step_refused, run-append, run_reached}
use Rattle.demand3.specs.Faults.{Apart}
use Rattle.demand3.specs.Demand.{Agreement, Demand3, HeldBefore}
use Rattle.demand3.proofs.Agrees.{agrees}
use Rattle.demand3.proofs.View.{state_of}
use Rattle.demand3.proofs.Along.{along}
use Rattle.demand3.proofs.Decided.{decides}
use Rattle.demand3.proofs.Read.{agreement}
use Rattle.demand3.proofs.Before.{apart_of, terms_of, within_before}

step_reached : {n : ℕ} {trail : List ℕ} {b : Bench} → Reached n trail b → (m : Marks) → Reached n trail (step_on m b)
unfolding run_on
step_reached run m = run_reached (m ∷ []) run

module _ (n : ℕ) (trail : List ℕ) (low : seats_least ≤ n) (high : n ≤ seats_most) where
  -- a verdict `within` after a step, taken or refused, was one before it
  within_step : {b : Bench} → Reached n trail b → (m : Marks) → verdict_found (step_on m b).ring ≡ within → verdict_found b.ring ≡ within
  within_step {b} run m h =
      ⊎_elim
      (λ e. within_before n trail low high run m e h)
      (λ x. ap (λ (c : Bench). verdict_found c.ring) (sym (step_refused m b x.2)) ∙ h)
      (told_is (told_on m b))

  within_since : {b : Bench} → Reached n trail b → (steps : List Marks) → verdict_found (run_on steps b).ring ≡ within
      → verdict_found b.ring ≡ within
  unfolding run_on
  within_since run [] h = h
  within_since {b = b} run (m ∷ more) h = within_step run m (within_since {b = step_on m b} (step_reached run m) more h)

  -- first faults n + 1 slots apart are enough
  pub agreement_of : {b : Bench} → Reached n trail b → Apart (b.ring.n + 1) b.ring b.ring.time → Agreement b.ring
  agreement_of {b} run w =
      let v = (reached_stands n trail low high run).valid in
      let t = terms_of b.ring _ v w in
      agreement b.ring _ v (agrees (state_of b.ring) ((along n trail low high run).kept t) t)

  pub agreement_within : {b : Bench} → Reached n trail b → verdict_found b.ring ≡ within → Agreement b.ring
  agreement_within {b} run h =
      let v = (reached_stands n trail low high run).valid in
      agreement_of run (apart_of b.ring _ v ((decides b.ring).within_kept h))

pub held_before : HeldBefore
held_before n trail steps more w =
    let whole = ap (λ (b : Bench). verdict_found b.ring) (sym (run-append steps more (fresh_bench n trail))) ∙ w.terms in
    record {
      least = w.least;
      most = w.most;
      terms = within_since n trail w.least w.most (run_reached steps start) more whole;
    }

pub demand3 : Demand3
demand3 n trail steps more whole =
    let w = held_before n trail steps more whole in
    agreement_within n trail w.least w.most (run_reached steps start) w.terms
