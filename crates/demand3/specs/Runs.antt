-- Runs that show that no part of demand 3 is empty, that the fault terms are tight, and how late a removal
-- can be; each with what comes of it.
use Rattle.std.specs.Prelude.{Bool, true, false, Option, None, Some, List, [], ◌∷◌, ℕ, ◌-◌, ◌*◌, replicate}
use Rattle.lists.specs.Counted.{tab, all_below}
use Rattle.trail.specs.Trail.{width}
use Rattle.ring.specs.Ring.{seat_of}
use Rattle.terms.specs.Terms.{apart_by}
use Rattle.ring.specs.Refusals.{Finding, within, outside, verdict_found}
use Rattle.ring.specs.declared.Ring.{Ring}
use Rattle.turn.specs.declared.Seat.{Seat}
use Rattle.steps.specs.Run.{Marks, quiet, send_fault, missed_by, fresh_bench, run_on}

pub data Run : Type 0 where
  -- of document 01: n = 4, seat 3 misses time 0, send fault of 1 at time 5, five apart; and three steps more
  five_apart : Run
  -- of document 01: n = 4, seat 3 misses time 0, send fault of 0 at time 4, four apart
  four_apart : Run
  -- n = 3, seat 2 misses time 0 and cannot send at time 2, send fault of 0 at time 3, three apart: one sound
  -- seat is left
  three_apart : Run
  -- of document 01: n = 3, seat 1 misses time 0 and time 2
  alone : Run
  -- n = 4, seat 3 misses time 0: up to its own slot, and with it
  before_own : Run
  after_own : Run
  -- n = 3, seat 1 misses time 0: up to time 1, and with time 2
  before_out : Run
  after_out : Run

abbrev pub seats_in : Run → ℕ
seats_in five_apart = 4
seats_in four_apart = 4
seats_in three_apart = 3
seats_in alone = 3
seats_in before_own = 4
seats_in after_own = 4
seats_in before_out = 3
seats_in after_out = 3

abbrev pub steps_of : Run → List Marks
steps_of five_apart = missed_by 3 ∷ quiet ∷ quiet ∷ quiet ∷ quiet ∷ send_fault ∷ quiet ∷ quiet ∷ quiet ∷ []
steps_of four_apart = missed_by 3 ∷ quiet ∷ quiet ∷ quiet ∷ send_fault ∷ []
steps_of three_apart = missed_by 2 ∷ quiet ∷ send_fault ∷ send_fault ∷ []
steps_of alone = missed_by 1 ∷ quiet ∷ missed_by 1 ∷ []
steps_of before_own = missed_by 3 ∷ quiet ∷ quiet ∷ []
steps_of after_own = missed_by 3 ∷ quiet ∷ quiet ∷ quiet ∷ []
steps_of before_out = missed_by 1 ∷ quiet ∷ []
steps_of after_out = missed_by 1 ∷ quiet ∷ quiet ∷ []

-- a trail with room for twenty records
abbrev pub trail_of_run : List ℕ
trail_of_run = replicate (width * 20) 0

abbrev pub last_ring : Run → Ring
last_ring x = (run_on (steps_of x) (fresh_bench (seats_in x) trail_of_run)).ring

-- ---- what comes of a run

pub record Finish : Type 0 where
  pub verdict : Finding
  pub n : ℕ
  pub time : ℕ
  -- the first faults of any two seats are at least n slots apart
  pub n_apart : Bool
  pub seats : List Seat

abbrev finish_on : Ring → Finish
finish_on r = record {
  verdict = verdict_found r;
  n = r.n;
  time = r.time;
  n_apart = all_below r.n (λ p. all_below r.n (apart_by (r.n - 1) r.faults r.time p));
  seats = tab r.n (seat_of r);
}

unfoldable pub finish_of : Run → Finish
finish_of x = finish_on (last_ring x)

-- set, ack, doubt and first fault
abbrev seat : ℕ → Bool → Bool → Option ℕ → Seat
seat set ack doubt fault = record { set = set; ack = ack; doubt = doubt; fault = fault }

abbrev comes : Finding → ℕ → ℕ → List Seat → Finish
comes verdict n time seats = record { verdict = verdict; n = n; time = time; n_apart = true; seats = seats }

abbrev pub stated : Run → Finish
stated five_apart = comes within 4 9 (seat 5 true false None ∷ seat 1 true false (Some 5) ∷ seat 5 true false None ∷ seat 6 true false (Some 0) ∷ [])
stated four_apart = comes (outside 4) 4 5 (seat 7 true true (Some 4) ∷ seat 4 false false None ∷ seat 2 false false None ∷ seat 6 true false (Some 0) ∷ [])
stated three_apart = comes (outside 3) 3 4 (seat 3 true true (Some 3) ∷ seat 0 false false None ∷ seat 2 true false (Some 0) ∷ [])
stated alone = comes within 3 3 (seat 5 true false None ∷ seat 2 false false (Some 0) ∷ seat 5 true true None ∷ [])
stated before_own = comes within 4 3 (seat 15 true false None ∷ seat 15 true false None ∷ seat 15 true false None ∷ seat 6 true false (Some 0) ∷ [])
stated after_own = comes within 4 4 (seat 7 false false None ∷ seat 7 false false None ∷ seat 7 false false None ∷ seat 6 true false (Some 0) ∷ [])
stated before_out = comes within 3 2 (seat 5 false false None ∷ seat 6 true true (Some 0) ∷ seat 5 false false None ∷ [])
stated after_out = comes within 3 3 (seat 5 true false None ∷ seat 4 false false (Some 0) ∷ seat 5 true true None ∷ [])
