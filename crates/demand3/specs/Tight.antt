-- That the fault terms are tight in their distance; that agreement needs the distance alone; and that the
-- exception of a seat alone is needed.
use Rattle.std.specs.Prelude.{false, List, ◌≡◌, ℕ, ◌+◌, ◌≤◌}
use Rattle.limits.specs.Limits.{seats_least, seats_most}
use Rattle.turn.specs.Turn.{out}
use Rattle.ring.specs.Ring.{seat_of}
use Rattle.steps.specs.Run.{Marks, fresh_bench, run_on}
use Rattle.demand3.specs.Faults.{SoundSeat, FirstFault, Apart, TwoSound}
use Rattle.demand3.specs.Demand.{Agreement, RunWithin}
use Rattle.demand3.specs.Runs.{Run, four_apart, three_apart, alone, seats_in, steps_of, trail_of_run, last_ring}

-- a run whose first faults are n slots apart instead of n + 1, and which ends out of agreement
pub record Breaks (x : Run) : Type 0 where
  pub apart : Apart (last_ring x).n (last_ring x) (last_ring x).time
  pub broken : Agreement (last_ring x) → ⊥

-- one with two sound seats left, and one with one
pub record Tight : Type 0 where
  pub two_left : Breaks four_apart
  pub two_sound : TwoSound (last_ring four_apart) (last_ring four_apart).time
  pub one_left : Breaks three_apart
  pub one_sound : SoundSeat (last_ring three_apart) 1
  pub no_other : (p : ℕ) → SoundSeat (last_ring three_apart) p → p ≡ 1

-- n + 1 slots apart is enough, with however few sound seats
abbrev pub ApartIsEnough : Type 0
ApartIsEnough =
    (n : ℕ) (trail : List ℕ) (steps : List Marks) → seats_least ≤ n → n ≤ seats_most
    → let r = (run_on steps (fresh_bench n trail)).ring in
    Apart (r.n + 1) r r.time → Agreement r

-- a run within the terms in which a faulty seat is in its own set after slot t + n - 1
pub record AloneStays : Type 0 where
  pub within : RunWithin (seats_in alone) trail_of_run (steps_of alone)
  pub fault : FirstFault (last_ring alone) 1 0
  pub over : 0 + (last_ring alone).n ≤ (last_ring alone).time
  pub stays : out 1 (seat_of (last_ring alone) 1) ≡ false
