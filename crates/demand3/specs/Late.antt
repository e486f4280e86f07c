-- How late a removal can be, as a site is told.
use Rattle.std.specs.Prelude.{Bool, true, false, [], ◌∷◌, ◌++◌, ◌≡◌, ℕ, ◌+◌, ◌-◌, ◌%◌, ◌≤◌, ◌<◌, leb}
use Rattle.seats.specs.Sets.{has_seat}
use Rattle.ring.specs.Ring.{seat_of}
use Rattle.ring.specs.declared.Ring.{Ring}
use Rattle.demand3.specs.Faults.{SoundSeat, FirstFault}
use Rattle.demand3.specs.Demand.{Agreement, RunWithin}
use Rattle.steps.specs.Run.{quiet}
use Rattle.demand3.specs.Runs.{Run, before_own, after_own, before_out, after_out, seats_in, steps_of, trail_of_run, last_ring}

-- where k is the first own slot of seat x from its first fault t on, x is in a sound seat's set up to slot k,
-- and no longer
abbrev pub RemovedInOwnSlot : Type 0
RemovedInOwnSlot =
    (r : Ring) → Agreement r → (p x t k : ℕ) → SoundSeat r p → FirstFault r x t → t ≤ k → k < t + r.n → k % r.n ≡ x
    → has_seat (seat_of r p).set x ≡ leb r.time k

-- so at most n - 1 slots late: once slot t + n - 1 has been stepped, x is in no sound seat's set
abbrev pub LateAtMost : Type 0
LateAtMost =
    (r : Ring) → Agreement r → (p x t : ℕ) → SoundSeat r p → FirstFault r x t → t + r.n ≤ r.time
    → has_seat (seat_of r p).set x ≡ false

-- k slots from its first fault t on have been stepped: is seat x then in seat p's set
pub record After (a : Run) (p x t k : ℕ) (has : Bool) : Type 0 where
  pub fault : FirstFault (last_ring a) x t
  pub time : (last_ring a).time ≡ t + k
  pub holds : has_seat (seat_of (last_ring a) p).set x ≡ has

-- run b is run a and one step more, within the terms: x is in the set after n - 1 slots, and not after n
pub record ExactlyLate (a b : Run) (p x t : ℕ) : Type 0 where
  pub longer : steps_of b ≡ steps_of a ++ (quiet ∷ [])
  pub within : RunWithin (seats_in b) trail_of_run (steps_of b)
  pub before : After a p x t (seats_in a - 1) true
  pub after : After b p x t (seats_in b) false

-- n - 1 slots late in the sound seats' sets (n = 4), and in the faulty seat's own (n = 3)
pub record Latest : Type 0 where
  pub sound : SoundSeat (last_ring after_own) 0
  pub from_theirs : ExactlyLate before_own after_own 0 3 0
  pub from_its_own : ExactlyLate before_out after_out 1 1 0
