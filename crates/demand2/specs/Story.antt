-- What it means that a step's sets and its records tell one story: one record for each removal, and none besides.
use Rattle.std.specs.Prelude.{Bool, cond, true, not, ◌&&◌, List, ◌⊎◌, ◌≡◌, ℕ, ◌-◌, ◌*◌, ◌≤◌, ◌<◌, length, get_or}
use Rattle.seats.specs.Sets.{has_seat}
use Rattle.ring.specs.Ring.{seat_of}
use Rattle.turn.specs.Table.{Row, table, arrived, bit_of}
use Rattle.turn.specs.Turn.{view_of}
use Rattle.trail.specs.Trail.{width, letter_of}
use Rattle.ring.specs.declared.Ring.{Ring}
use Rattle.turn.specs.declared.Slot.{Slot}
use Rattle.turn.specs.declared.Cause.{Cause}
use Rattle.turn.specs.declared.Cause.TheVariants.{A, C}
use Rattle.turn.specs.declared.Removal.{Removal}
use Rattle.turn.specs.declared.Removal.TheVariants.{Itself, Owner, Both}
use Rattle.steps.specs.Run.{Bench}
use Rattle.trail.specs.Trail.{record_at}
use Rattle.trail.specs.declared.Record.{Record}
use Rattle.demand2.specs.Records.{passing, tells_of}

-- q was in the set and is not any more
abbrev pub left : ℕ → ℕ → ℕ → Bool
left before after q = has_seat before q && not (has_seat after q)

-- the table's row for seat p in the slot
abbrev pub row_of : Ring → Slot → ℕ → Row
row_of r c p = table (arrived (view_of c p)) (bit_of (view_of c p)) (seat_of r p).ack (seat_of r p).doubt

-- whom a row's removal takes from p's set in the slot of b, and the letter of the cause
pub data Gives (p b : ℕ) : Removal → (removed letter : ℕ) → Type 0 where
  itself : (k : Cause) → Gives p b (Itself k) p (letter_of k)
  owner : (k : Cause) → Gives p b (Owner k) b (letter_of k)
  itself_too : (k l : Cause) → Gives p b (Both k l) p (letter_of k)
  owner_too : (k l : Cause) → Gives p b (Both k l) b (letter_of l)

-- a record of the step: its time is the step's; its holder is a seat that is not out, is not the owner, and
-- has the owner in its set; the seat removed and the cause are those of the table's row for the holder
pub record Says (r : Ring) (c : Slot) (e : Record) : Type 0 where
  pub time : e.time ≡ r.time
  pub holder : e.holder < r.n
  pub member : has_seat (seat_of r e.holder).set e.holder ≡ true
  pub other : e.holder ≡ c.owner → ⊥
  pub expects : has_seat (seat_of r e.holder).set c.owner ≡ true
  pub cause : Gives e.holder c.owner (row_of r c e.holder).removed e.removed e.cause

-- one record stands before another of the same step: by holder, and cause a before cause c
abbrev pub Before : Record → Record → Type 0
Before e f = (e.holder < f.holder) ⊎ ((e.holder ≡ f.holder) × (e.cause ≡ letter_of A) × (f.cause ≡ letter_of C))

-- the step from the ring r and the trail t, in the slot c, to the ring r' and the trail t'
pub record OneStory (r : Ring) (c : Slot) (t : List ℕ) (r' : Ring) (t' : List ℕ) : Type 0 where
  -- q was in p's set and is not any more, where exactly one record of the step has that holder and removed
  -- seat; else none has
  pub counted : (p q : ℕ) → passing (tells_of p q) r.records (r'.records - r.records) t' ≡ cond (left (seat_of r p).set (seat_of r' p).set q) 1 0
  -- what each record of the step says
  pub says : (i : ℕ) → r.records ≤ i → i < r'.records → Says r c (record_at t' i)
  -- and how they stand
  pub order : (i j : ℕ) → r.records ≤ i → i < j → j < r'.records → Before (record_at t' i) (record_at t' j)
  -- every byte of the trail outside them is as it was
  pub outside : (j : ℕ) → (j < width * r.records) ⊎ (width * r'.records ≤ j) → get_or t' j 0 ≡ get_or t j 0
  pub size : length t' ≡ length t

-- the whole trail at a moment of a run
pub record WholeStory (n : ℕ) (b : Bench) : Type 0 where
  -- q is in p's set, or else exactly one record has that holder and removed seat
  pub rebuilt : (p q : ℕ) → p < n → q < n
      → passing (tells_of p q) 0 b.ring.records b.trail ≡ cond (has_seat (seat_of b.ring p).set q) 0 1
  -- the records are of steps taken
  pub past : (i : ℕ) → i < b.ring.records → (record_at b.trail i).time < b.ring.time
  -- and stand by time, then holder, and cause a before cause c
  pub order : (i j : ℕ) → i < j → j < b.ring.records
      → ((record_at b.trail i).time < (record_at b.trail j).time)
      ⊎ (((record_at b.trail i).time ≡ (record_at b.trail j).time) × Before (record_at b.trail i) (record_at b.trail j))
