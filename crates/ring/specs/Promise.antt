-- What each public function promises: its whole result, and the trail after it, for every input.
use Rattle.std.specs.Prelude.{Bool, List, ◌≡◌, ℕ, length}
use Rattle.limits.specs.Refusals.{on_done, tells}
use Rattle.ring.specs.Ring.{zero_ring, fresh_ring}
use Rattle.ring.specs.Step.{slot_of, ring_after, trail_after}
use Rattle.ring.specs.Refusals.{found, fresh_told, step_told, verdict_found}
use Rattle.ring.specs.declared.Ring.{Ring}
use Rattle.ring.specs.declared.Stepped.{Stepped}
use Rattle.ring.specs.declared.Judged.{Judged}

-- the ring and the trail after a step: those of the step taken, or as they came
unfoldable pub ring_of : Ring → Bool → ℕ → List ℕ → Ring
ring_of r send receive t = on_done (step_told r send receive (length t)) (ring_after r (slot_of r send receive)) r

unfoldable pub trail_of : Ring → Bool → ℕ → List ℕ → List ℕ
trail_of r send receive t = on_done (step_told r send receive (length t)) (trail_after r (slot_of r send receive) t) t

-- the zero ring
pub record ZeroPromise (r : Ring) : Type 0 where
  pub ring : r ≡ zero_ring

-- a fresh ring, or the zero ring where it is refused
pub record FreshPromise (n : ℕ) (s : Stepped) : Type 0 where
  pub answer : tells s.answer ≡ fresh_told n
  pub ring : s.ring ≡ on_done (fresh_told n) (fresh_ring n) zero_ring

-- a step taken, with its records; or, refused, the ring as it came and the trail left alone
pub record StepPromise (r : Ring) (send : Bool) (receive : ℕ) (t : List ℕ) (s : Stepped) (t' : List ℕ) : Type 0 where
  pub answer : tells s.answer ≡ step_told r send receive (length t)
  pub ring : s.ring ≡ ring_of r send receive t
  pub trail : t' ≡ trail_of r send receive t

-- the verdict, and the ring as it came
pub record VerdictPromise (r : Ring) (j : Judged) : Type 0 where
  pub verdict : found j.verdict ≡ verdict_found r
  pub ring : j.ring ≡ r
