-- What is asked of the engine or the reader, and what its own definitions reply.
use Rattle.std.specs.Prelude.{Bool, cond, List, [], ◌∷◌, ℕ, ◌*◌, replicate}
use Rattle.limits.specs.Refusals.{Told}
use Rattle.lists.specs.Counted.{tab, joined}
use Rattle.seats.specs.Sets.{has_seat}
use Rattle.turn.specs.Turn.{out}
use Rattle.ring.specs.Ring.{seat_of}
use Rattle.trail.specs.Trail.{width, record_at}
use Rattle.trail.specs.declared.Record.{Record}
use Rattle.ring.specs.Refusals.{Finding, verdict_found}
use Rattle.ring.specs.declared.Ring.{Ring}
use Rattle.sheet.specs.Sheets.{sheet_in, read_told}
use Rattle.steps.specs.Run.{Marks, Bench, fresh_bench, run_on}

-- a ring of n seats with the marks of its steps, or a sheet's bytes
pub data Asked : Type 0 where
  stepped : (n : ℕ) → List Marks → Asked
  read : List ℕ → Asked

-- the seats in a seat's set, its acknowledgement, and whether it is out
pub record Held : Type 0 where
  pub set : List ℕ
  pub ack : Bool
  pub is_out : Bool

-- what each seat holds, the records of the trail and the verdict; or what the reader says
pub data Reply : Type 0 where
  came : List Held → List Record → Finding → Reply
  answered : Told → Reply

abbrev members : ℕ → ℕ → List ℕ
members n set = joined n (λ q. cond (has_seat set q) (q ∷ []) [])

unfoldable pub held_by : Ring → ℕ → Held
held_by r p = record { set = members r.n (seat_of r p).set; ack = (seat_of r p).ack; is_out = out p (seat_of r p) }

unfoldable pub reply_on : Bench → Reply
reply_on b = came (tab b.ring.n (held_by b.ring)) (tab b.ring.records (record_at b.trail)) (verdict_found b.ring)

-- the trail has room for 20 records, which is more than any of these runs writes
unfoldable pub reply_to : Asked → Reply
reply_to (stepped n marks) = reply_on (run_on marks (fresh_bench n (replicate (width * 20) 0)))
reply_to (read bytes) = answered (read_told (sheet_in bytes))
