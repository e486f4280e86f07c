-- A run with faults meets every hypothesis of demand 3, by computation. Assumes nothing.
use mathlib.Core.Path.{refl, ap}
use mathlib.Core.List.{[]}
use Prim.Native.Nat.{ℕ, ◌%◌}
use native.Mathlib.Omega.{arith}
use Rattle.demand3.specs.Demand.{RunWithin}
use Rattle.demand3.specs.Runs.{five_apart, before_own, steps_of, seats_in, trail_of_run}
use Rattle.demand3.specs.Example.{Example}
use Rattle.demand3.proofs.Demand.{demand3}
use Rattle.demand3.proofs.Runs.{is_n, is_time, is_sound, is_fault, is_in, is_within}

within : RunWithin (seats_in five_apart) trail_of_run (steps_of five_apart)
within = is_within five_apart (omega arith) (omega arith) refl

pub example : Example
example = record {
  within = within;
  one_sound = is_sound five_apart 0 refl refl;
  other_sound = is_sound five_apart 2 refl refl;
  first_fault = is_fault five_apart 3 0 refl refl;
  second_fault = is_fault five_apart 1 5 refl refl;
  own_slot = ap (λ (k : ℕ). 5 % k) (is_n five_apart);
  over = omega (arith, is_n five_apart, is_time five_apart);
  agreement = demand3 (seats_in five_apart) trail_of_run (steps_of five_apart) [] within;
  earlier = is_within before_own (omega arith) (omega arith) refl;
  still_in = is_in before_own 0 3 refl;
}
