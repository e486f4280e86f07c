-- One step: its slot, the turn of each seat, and the ring and the trail after it.
use Rattle.std.specs.Prelude.{Bool, List, ℕ, ◌+◌, length}
use Rattle.lists.specs.Counted.{joined, sum}
use Rattle.turn.specs.Table.{Gone, gone_by}
use Rattle.turn.specs.Turn.{spoken_by, turn_of}
use Rattle.turn.specs.declared.Slot.{Slot}
use Rattle.turn.specs.declared.Turn.{Turn}
use Rattle.trail.specs.Trail.{records_of, written}
use Rattle.trail.specs.declared.Record.{Record}
use Rattle.ring.specs.Ring.{seat_of, owner_of, drawn_to, with_counts}
use Rattle.ring.specs.declared.Ring.{Ring}

-- ---- the slot

-- the owner speaks as its own set, its acknowledgement before the step and its send mark have it
abbrev pub slot_for : Ring → Bool → ℕ → ℕ → Slot
slot_for r send receive b = record {
  time = r.time;
  owner = b;
  spoken = spoken_by b (seat_of r b).set (seat_of r b).ack send;
  send = send;
  receive = receive;
}

abbrev pub slot_of : Ring → Bool → ℕ → Slot
slot_of r send receive = slot_for r send receive (owner_of r)

-- ---- the ring

-- seat p's turn, from the ring before the step
abbrev pub turn_at : Ring → Slot → ℕ → Turn
turn_at r c p = turn_of c p (seat_of r p)

-- those whom seat p removes
abbrev pub gone_at : Ring → Slot → ℕ → List Gone
gone_at r c p = gone_by p c.owner (turn_at r c p).removal

abbrev pub count_at : Ring → Slot → ℕ → ℕ
count_at r c p = length (gone_at r c p)

-- the step's number of records
abbrev pub count_in : Ring → Slot → ℕ
count_in r c = sum r.n (count_at r c)

-- every seat after its turn, one slot later, with the step's records counted
abbrev pub ring_after : Ring → Slot → Ring
ring_after r c = with_counts (drawn_to r.n r (λ p. (turn_at r c p).seat)) r.n (r.time + 1) (r.records + count_in r c)

-- ---- the trail

abbrev pub records_at : Ring → Slot → ℕ → List Record
records_at r c p = records_of r.time p (gone_at r c p)

-- the records of the step, by holder, after those already written; no other byte is touched
abbrev pub trail_after : Ring → Slot → List ℕ → List ℕ
trail_after r c trail = written trail r.records (joined r.n (records_at r c))
