-- The seats that are seen at once to keep all that they have. No rule rests on this file: that such a seat's
-- turn leaves it as it is, is proved.
use Rattle.std.specs.Prelude.{Bool, false, not, ◌&&◌, ◌||◌, ℕ, eqb, Option, Some, None}
use Rattle.seats.specs.Sets.{has_seat}
use Rattle.turn.specs.declared.Slot.{Slot}

-- true is spoken
abbrev pub is_true : Option Bool → Bool
is_true None = false
is_true (Some bit) = bit

-- a slot in which every seat that expects the owner hears true
abbrev pub calm_in : Slot → Bool
calm_in c = is_true c.spoken && eqb c.receive 0

-- a seat with its acknowledgement true and no doubt has nothing to change in it
abbrev pub undisturbed_by : Bool → Bool → Bool → Bool
undisturbed_by calm ack doubt = calm && ack && not doubt

-- seat p is not the owner, and is undisturbed or does not expect the owner
abbrev pub keeps_all : Bool → ℕ → Bool → Bool → ℕ → ℕ → Bool
keeps_all calm set ack doubt p owner = not (eqb p owner) && (undisturbed_by calm ack doubt || not (has_seat set owner))
