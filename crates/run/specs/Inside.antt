-- What the run's inner functions promise. A reader of the promise of `run` needs none of it.
use Rattle.std.specs.Prelude.{List, ◌≡◌, ℕ, ◌+◌, ◌^◌, ◌≤◌, ◌<◌, eqb}
use Rattle.std.specs.Int.Bits.{bit_or}
use Rattle.lists.specs.Counted.{any_below}
use Rattle.seats.specs.Sets.{has_seat, without_seat}
use Rattle.seats.specs.Joined.{added}
use Rattle.ring.specs.declared.Ring.{Ring}
use Rattle.sheet_lines.specs.Bytes.{send, receive, dark}
use Rattle.sheet.specs.Good.{mark_of}
use Rattle.sheet.specs.declared.Mark.{Mark}
use Rattle.sheet.specs.declared.Sheet.{Sheet}
use Rattle.run.specs.Marks.{says, darkens}
use Rattle.run.specs.Outcome.{Outcome, said, Result}
use Rattle.run.specs.declared.Ran.{Ran}
use Rattle.run.specs.declared.marks.Gathered.{Gathered}
use Rattle.run.specs.declared.marks.SlotMarks.{SlotMarks}

-- ---- the marks gathered

abbrev pub none_gathered : Gathered
none_gathered = record { next = 0; send = 0; receive = 0; dark = 0 }

abbrev pub with_mark : Gathered → Mark → Gathered
with_mark g m = record {
  next = g.next + 1;
  send = added g.send m.seat (eqb m.kind send);
  receive = added g.receive m.seat (eqb m.kind receive);
  dark = added g.dark m.seat (eqb m.kind dark);
}

abbrev pub slot_over : Gathered → Gathered
slot_over g = record { next = g.next; send = 0; receive = 0; dark = g.dark }

abbrev pub given_by : Gathered → ℕ → SlotMarks
given_by g owner = record { send = has_seat (bit_or g.send g.dark) owner; receive = without_seat (bit_or g.receive g.dark) owner }

-- the marks before the place have been gathered for the slot at time t, and those from the place on are not
-- before it
pub record Gathers (sheet : Sheet) (t : ℕ) (g : Gathered) : Type 0 where
  pub few : g.next ≤ sheet.mark_count
  pub past : (i : ℕ) → i < g.next → (mark_of sheet i).time ≤ t
  pub left : (i : ℕ) → g.next ≤ i → i < sheet.mark_count → t ≤ (mark_of sheet i).time
  pub sends : (p : ℕ) → has_seat g.send p ≡ any_below g.next (λ i. says send t p (mark_of sheet i))
  pub receives : (p : ℕ) → has_seat g.receive p ≡ any_below g.next (λ i. says receive t p (mark_of sheet i))
  pub darks : (p : ℕ) → has_seat g.dark p ≡ any_below g.next (λ i. darkens t p (mark_of sheet i))
  pub receive_inside : g.receive < 2 ^ sheet.n
  pub dark_inside : g.dark < 2 ^ sheet.n

-- no mark is left at this time
abbrev pub NoneLeft : Sheet → ℕ → Gathered → Type 0
NoneLeft sheet t g = (i : ℕ) → g.next ≤ i → i < sheet.mark_count → t < (mark_of sheet i).time

-- ---- the run's value

-- a run's value has this outcome, this ring and these modules
pub record Ended (o : Outcome) (last : Ring) (ms : List ℕ) (r : Ran) : Type 0 where
  pub answer : said r.answer ≡ o
  pub ring : r.ring ≡ last
  pub modules : r.modules ≡ ms

-- a run's value and the trail after it are a result
pub record Leaves (x : Result) (r : Ran) (t' : List ℕ) : Type 0 where
  pub answer : said r.answer ≡ x.outcome
  pub ring : r.ring ≡ x.ring
  pub modules : r.modules ≡ x.modules
  pub trail : t' ≡ x.trail
