-- What comes of a run, in document 01's words and numbers.
use Rattle.std.specs.Prelude as std
use Rattle.std.specs.Prelude.{Ok, Err, List, ℕ}
use Rattle.limits.specs.Refusals.{number_of}
use Rattle.limits.specs.declared.Refused.{Refused}
use Rattle.ring.specs.Refusals.{Finding, found}
use Rattle.ring.specs.declared.Ring.{Ring}
use Rattle.run.specs.declared.Bus.{Bus}
use Rattle.run.specs.declared.Bus.TheVariants.{Agrees, Differs}
use Rattle.run.specs.declared.Shown.{Shown}

-- the bus agrees, or differs first in slot T
pub data Heard : Type 0 where
  agrees : Heard
  differs : ℕ → Heard

-- the run with its two verdicts, or refused with a number and a place
pub data Outcome : Type 0 where
  ran : Heard → Finding → Outcome
  refused : (number place : ℕ) → Outcome

abbrev pub heard : Bus → Heard
heard Agrees = agrees
heard (Differs t) = differs t

abbrev pub said : std.Result Shown Refused → Outcome
said (Ok shown) = ran (heard shown.bus) (found shown.verdict)
said (Err r) = refused (number_of r.why) r.place

-- all that a run leaves
pub record Result : Type 0 where
  pub outcome : Outcome
  pub ring : Ring
  pub modules : List ℕ
  pub trail : List ℕ
