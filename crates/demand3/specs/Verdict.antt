-- What the verdict decides: the fault terms up to every step taken, and the first step up to which they fail.
use Rattle.std.specs.Prelude.{true, ◌≡◌, ℕ, ◌<◌}
use Rattle.limits.specs.Limits.{room_most}
use Rattle.ring.specs.Ring.{is_ring}
use Rattle.ring.specs.Refusals.{verdict_found, within, outside}
use Rattle.ring.specs.declared.Ring.{Ring}
use Rattle.demand3.specs.Faults.{TermsHold}

-- the fault terms hold up to every step taken
abbrev pub TermsKept : Ring → Type 0
TermsKept r = (t : ℕ) → t < r.time → TermsHold r t

-- T is the first step taken up to which the fault terms fail
pub record FirstFailing (r : Ring) (T : ℕ) : Type 0 where
  pub taken : T < r.time
  pub fails : TermsHold r T → ⊥
  pub before : (t : ℕ) → t < T → TermsHold r t

-- both verdicts, both ways
pub record Decides (r : Ring) : Type 0 where
  pub within_kept : verdict_found r ≡ within → TermsKept r
  pub kept_within : is_ring r room_most ≡ true → TermsKept r → verdict_found r ≡ within
  pub outside_failing : (T : ℕ) → verdict_found r ≡ outside T → FirstFailing r T
  pub failing_outside : is_ring r room_most ≡ true → (T : ℕ) → FirstFailing r T → verdict_found r ≡ outside T
