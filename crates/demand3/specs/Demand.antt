-- Demand 3 of the order, over the engine: what the sound seats hold, and when a faulty seat is gone, after
-- every step of a run within the fault terms.
use Rattle.std.specs.Prelude.{true, false, List, ◌++◌, ◌⊎◌, ◌≡◌, ℕ, ◌+◌, ◌%◌, ◌^◌, ◌≤◌, ◌<◌}
use Rattle.limits.specs.Limits.{seats_least, seats_most}
use Rattle.seats.specs.Sets.{has_seat}
use Rattle.turn.specs.Turn.{out}
use Rattle.ring.specs.Ring.{seat_of}
use Rattle.ring.specs.Refusals.{verdict_found, within}
use Rattle.ring.specs.declared.Ring.{Ring}
use Rattle.steps.specs.Run.{Marks, fresh_bench, run_on}
use Rattle.demand3.specs.Faults.{SoundSeat, FirstFault}

-- ---- a ring in agreement

pub record Agreement (r : Ring) : Type 0 where
  -- all sound seats hold the same set and the same acknowledgement bit
  pub same_set : {p q : ℕ} → SoundSeat r p → SoundSeat r q → (seat_of r p).set ≡ (seat_of r q).set
  pub same_ack : {p q : ℕ} → SoundSeat r p → SoundSeat r q → (seat_of r p).ack ≡ (seat_of r q).ack
  -- the set has every sound seat, at most one faulty one, and none that is no seat of the ring
  pub sound_in : {p q : ℕ} → SoundSeat r p → SoundSeat r q → has_seat (seat_of r p).set q ≡ true
  pub one_faulty : {p x y t u : ℕ} → SoundSeat r p → FirstFault r x t → FirstFault r y u
      → has_seat (seat_of r p).set x ≡ true → has_seat (seat_of r p).set y ≡ true → x ≡ y
  pub only_seats : {p : ℕ} → SoundSeat r p → (seat_of r p).set < 2 ^ r.n
  -- a seat x whose first fault is in slot t is in no sound seat's set once a slot k of its own, from t on,
  -- has been stepped
  pub left_by : {p x t : ℕ} → SoundSeat r p → FirstFault r x t → (k : ℕ) → t ≤ k → k < r.time → k % r.n ≡ x
      → has_seat (seat_of r p).set x ≡ false
  -- and not before: with no such slot stepped it is in their sets
  pub stays_till : {p x t : ℕ} → SoundSeat r p → FirstFault r x t → ((k : ℕ) → t ≤ k → k < r.time → k % r.n ≡ x → ⊥)
      → has_seat (seat_of r p).set x ≡ true
  -- after slot t + n - 1 it is out of its own set, or its set holds it alone
  pub gone_by : {x t : ℕ} → FirstFault r x t → t + r.n ≤ r.time → (out x (seat_of r x) ≡ true) ⊎ ((seat_of r x).set ≡ 2 ^ x)

-- ---- a run

-- a fresh ring of 2 to 32 seats, any list of steps (one that is refused changes nothing), and the verdict
-- `within` on the last ring
pub record RunWithin (n : ℕ) (trail : List ℕ) (steps : List Marks) : Type 0 where
  pub least : seats_least ≤ n
  pub most : n ≤ seats_most
  pub terms : verdict_found (run_on steps (fresh_bench n trail)).ring ≡ within

-- then after every step, `steps` being those up to it and `more` the rest, the ring is in agreement
abbrev pub Demand3 : Type 0
Demand3 = (n : ℕ) (trail : List ℕ) (steps more : List Marks) → RunWithin n trail (steps ++ more) → Agreement (run_on steps (fresh_bench n trail)).ring

-- and the verdict was `within` after every step before: the terms of the last ring suffice
abbrev pub HeldBefore : Type 0
HeldBefore = (n : ℕ) (trail : List ℕ) (steps more : List Marks) → RunWithin n trail (steps ++ more) → RunWithin n trail steps
