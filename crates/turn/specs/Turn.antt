-- One seat in a slot: who speaks, which marks take hold, what the seat sees and decides, and the seat after it.
use Rattle.std.specs.Prelude.{Bool, true, false, cond, not, ◌&&◌, ℕ, eqb, Option, Some, None, is_none}
use Rattle.seats.specs.Sets.{has_seat}
use Rattle.turn.specs.Table.{decided, gone_by, without_all}
use Rattle.turn.specs.declared.View.{View}
use Rattle.turn.specs.declared.View.TheVariants.{Silent, Missed, Heard}
use Rattle.turn.specs.declared.Removal.TheVariants.{Nobody}
use Rattle.turn.specs.declared.Decision.{Decision}
use Rattle.turn.specs.declared.Slot.{Slot}
use Rattle.turn.specs.declared.Seat.{Seat}
use Rattle.turn.specs.declared.Turn.{Turn}

-- a seat outside its own set is out
abbrev pub out : ℕ → Seat → Bool
out p s = not (has_seat s.set p)

-- a seat is sound before its first fault
abbrev pub sound : Seat → Bool
sound s = is_none s.fault

-- ---- what is spoken, and what a seat sees of it

-- the owner speaks if it is in its own set and has no send mark; it speaks its acknowledgement as it was
-- before the step
abbrev pub spoken_by : (owner set : ℕ) (ack send : Bool) → Option Bool
spoken_by owner set ack send = cond (has_seat set owner && not send) (Some ack) None

-- a seat that expects the owner, with a receive mark or without: where the owner speaks, the mark takes hold
abbrev pub sees : Option Bool → Bool → View
sees None marked = Silent
sees (Some bit) true = Missed
sees (Some bit) false = Heard bit

abbrev pub view_of : Slot → ℕ → View
view_of c p = sees c.spoken (has_seat c.receive p)

-- its receive mark took hold
abbrev pub is_missed : View → Bool
is_missed Silent = false
is_missed Missed = true
is_missed (Heard bit) = false

-- ---- the seat after the slot

-- the first fault is that of the step in which a mark first takes hold
abbrev pub fault_after : (held : Bool) (time : ℕ) (fault : Option ℕ) → Option ℕ
fault_after held time fault = cond (held && is_none fault) (Some time) fault

-- the owner, in its own set: acknowledgement true, doubt the opposite of the old one, also where its send
-- mark takes hold
abbrev pub owner_turn : Slot → Seat → Turn
owner_turn c s = record {
  seat = record { set = s.set; ack = true; doubt = not s.ack; fault = fault_after c.send c.time s.fault };
  removal = Nobody;
}

-- another seat, not out and with the owner in its set, after its decision
abbrev pub decided_turn : Slot → ℕ → Seat → Decision → Turn
decided_turn c p s d = record {
  seat = record {
    set = without_all s.set (gone_by p c.owner d.removal);
    ack = d.ack;
    doubt = false;
    fault = fault_after (is_missed d.view) c.time s.fault;
  };
  removal = d.removal;
}

abbrev pub other_turn : Slot → ℕ → Seat → Turn
other_turn c p s = decided_turn c p s (decided (view_of c p) s.ack s.doubt)

-- nothing changes
abbrev pub still_turn : Seat → Turn
still_turn s = record { seat = s; removal = Nobody }

-- seat p in the slot: a seat that is out, or does not have the owner in its set, changes nothing
unfoldable pub turn_of : Slot → ℕ → Seat → Turn
turn_of c p s =
    cond (out p s) (still_turn s)
    (cond (eqb p c.owner) (owner_turn c s)
    (cond (has_seat s.set c.owner) (other_turn c p s) (still_turn s)))
