-- What a ring is, in document 01's words: the facts that the engine's test `is_ring` tests.
use Rattle.std.specs.Prelude.{◌≡◌, ℕ, ◌^◌, ◌≤◌, ◌<◌}
use Rattle.lists.specs.Kept.{kept}
use Rattle.ring.specs.Ring.{seat_of, no_seat}
use Rattle.ring.specs.declared.Ring.{Ring}
use Rattle.turn.specs.declared.Seat.{Seat}
use Rattle.limits.specs.Limits.{seats_least, seats_most, slots_most}

-- a seat below n: no seat n or above in its set, and a first fault only before the time
pub record Member (n time : ℕ) (s : Seat) : Type 0 where
  pub inside : s.set < 2 ^ n
  pub past : kept s.fault ≤ time

-- a ring with no more records than the room
pub record Valid (r : Ring) (room : ℕ) : Type 0 where
  pub least : seats_least ≤ r.n
  pub most : r.n ≤ seats_most
  pub soon : r.time ≤ slots_most
  pub fits : r.records ≤ room
  pub member : (p : ℕ) → p < r.n → Member r.n r.time (seat_of r p)
  pub absent : (p : ℕ) → r.n ≤ p → p < seats_most → seat_of r p ≡ no_seat
