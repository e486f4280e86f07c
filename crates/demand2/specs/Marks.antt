-- A mark that does not take hold changes nothing, in document 01's words.
use Rattle.std.specs.Prelude.{Bool, true, false, not, ◌&&◌, ◌≡◌, ℕ, Option, Some, None}
use Rattle.seats.specs.Sets.{has_seat, without_seat}
use Rattle.turn.specs.Turn.{out}
use Rattle.ring.specs.Ring.{seat_of, owner_of}
use Rattle.turn.specs.Turn.{turn_of}
use Rattle.ring.specs.Step.{slot_of, turn_at}
use Rattle.ring.specs.declared.Ring.{Ring}
use Rattle.turn.specs.declared.Seat.{Seat}
use Rattle.turn.specs.declared.Slot.{Slot}

-- a send mark takes hold if the owner is in its own set
abbrev pub send_holds : Ring → Bool
send_holds r = not (out (owner_of r) (seat_of r (owner_of r)))

-- the owner speaks
abbrev pub speaks : Option Bool → Bool
speaks None = false
speaks (Some bit) = true

-- a receive mark takes hold if its seat is not out, the owner is in that seat's set, and the owner speaks
abbrev pub receive_holds : Slot → ℕ → Seat → Bool
receive_holds c p s = not (out p s) && has_seat s.set c.owner && speaks c.spoken

-- the slot without the receive mark of seat q
abbrev pub unmarked : Slot → ℕ → Slot
unmarked c q = record { time = c.time; owner = c.owner; spoken = c.spoken; send = c.send; receive = without_seat c.receive q }

-- a send mark that does not take hold: every seat's turn is the same without it
abbrev pub IdleSend : Type 0
IdleSend = (r : Ring) (receive p : ℕ) → send_holds r ≡ false → turn_at r (slot_of r true receive) p ≡ turn_at r (slot_of r false receive) p

-- a receive mark that does not take hold: its seat's turn is the same without it
abbrev pub IdleReceive : Type 0
IdleReceive = (c : Slot) (p : ℕ) (s : Seat) → receive_holds c p s ≡ false → turn_of (unmarked c p) p s ≡ turn_of c p s

-- and no receive mark changes the turn of another seat
abbrev pub OwnReceive : Type 0
OwnReceive = (c : Slot) (p q : ℕ) (s : Seat) → (p ≡ q → ⊥) → turn_of (unmarked c q) p s ≡ turn_of c p s
