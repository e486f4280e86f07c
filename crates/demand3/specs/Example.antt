-- A run with faults that meets every hypothesis of demand 3.
use Rattle.std.specs.Prelude.{true, ◌≡◌, ◌+◌, ◌%◌, ◌≤◌}
use Rattle.seats.specs.Sets.{has_seat}
use Rattle.ring.specs.Ring.{seat_of}
use Rattle.demand3.specs.Faults.{SoundSeat, FirstFault}
use Rattle.demand3.specs.Demand.{Agreement, RunWithin}
use Rattle.demand3.specs.Runs.{five_apart, before_own, seats_in, steps_of, trail_of_run, last_ring}

-- two sound seats, two faults, each of them followed by an own slot and by n slots; and, earlier, a faulty
-- seat that is still in the sets
pub record Example : Type 0 where
  pub within : RunWithin (seats_in five_apart) trail_of_run (steps_of five_apart)
  pub one_sound : SoundSeat (last_ring five_apart) 0
  pub other_sound : SoundSeat (last_ring five_apart) 2
  pub first_fault : FirstFault (last_ring five_apart) 3 0
  pub second_fault : FirstFault (last_ring five_apart) 1 5
  pub own_slot : 5 % (last_ring five_apart).n ≡ 1
  pub over : 5 + (last_ring five_apart).n ≤ (last_ring five_apart).time
  pub agreement : Agreement (last_ring five_apart)
  pub earlier : RunWithin (seats_in before_own) trail_of_run (steps_of before_own)
  pub still_in : has_seat (seat_of (last_ring before_own) 0).set 3 ≡ true
