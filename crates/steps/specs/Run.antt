-- A run as a list of steps, by the engine's own definitions, with one buffer lent throughout.
use Rattle.std.specs.Prelude.{Bool, true, false, List, [], ◌∷◌, ◌≡◌, ℕ, ◌^◌, length}
use Rattle.limits.specs.Refusals.{Told, done}
use Rattle.ring.specs.Ring.{fresh_ring}
use Rattle.ring.specs.Refusals.{step_told}
use Rattle.ring.specs.Promise.{ring_of, trail_of}
use Rattle.ring.specs.declared.Ring.{Ring}

-- what one step is given: the owner's send mark, and the seats with a receive mark
pub record Marks : Type 0 where
  pub send : Bool
  pub receive : ℕ

-- no mark; a send mark for the owner; a receive mark for one seat
abbrev pub quiet : Marks
quiet = record { send = false; receive = 0 }

abbrev pub send_fault : Marks
send_fault = record { send = true; receive = 0 }

abbrev pub missed_by : ℕ → Marks
missed_by p = record { send = false; receive = 2 ^ p }

-- a ring and the trail lent to it
pub record Bench : Type 0 where
  pub ring : Ring
  pub trail : List ℕ

abbrev pub told_on : Marks → Bench → Told
told_on m b = step_told b.ring m.send m.receive (length b.trail)

abbrev pub step_on : Marks → Bench → Bench
step_on m b = record {
  ring = ring_of b.ring m.send m.receive b.trail;
  trail = trail_of b.ring m.send m.receive b.trail;
}

abbrev pub fresh_bench : ℕ → List ℕ → Bench
fresh_bench n trail = record { ring = fresh_ring n; trail = trail }

-- the benches that a run comes to, from a fresh ring of n seats and a trail, every step of it taken
pub data Reached (n : ℕ) (trail : List ℕ) : Bench → Type 0 where
  start : Reached n trail (fresh_bench n trail)
  taken : {b : Bench} → Reached n trail b → (m : Marks) → told_on m b ≡ done → Reached n trail (step_on m b)

-- the bench after a list of steps, whether each is taken or refused
unfoldable pub run_on : List Marks → Bench → Bench
run_on [] b = b
run_on (m ∷ more) b = run_on more (step_on m b)
