-- The ring as one value: its seats, the owner of a slot, the fresh and the zero ring, and what is not a ring.
use Rattle.std.specs.Prelude.{Bool, true, false, cond, not, ◌&&◌, ◌++◌, ℕ, ◌%◌, leb, ltb, eqb, get_or, drop, replicate, Option, None, Some, is_none}
use Rattle.limits.specs.Limits.{seats_most, slots_most, seats_stand}
use Rattle.lists.specs.Counted.{tab, all_below}
use Rattle.seats.specs.Sets.{full_set}
use Rattle.ring.specs.declared.Ring.{Ring}
use Rattle.turn.specs.declared.Seat.{Seat}

-- seat p of the ring
abbrev pub seat_of : Ring → ℕ → Seat
seat_of r p = record {
  set = get_or r.sets p 0;
  ack = get_or r.acks p false;
  doubt = get_or r.doubts p false;
  fault = get_or r.faults p None;
}

-- the owner of the slot
abbrev pub owner_of : Ring → ℕ
owner_of r = r.time % r.n

-- ---- the zero ring and a fresh ring

abbrev pub no_seat : Seat
no_seat = record { set = 0; ack = false; doubt = false; fault = None }

-- every seat in its set, its acknowledgement true, its doubt false, no fault
abbrev pub fresh_seat : ℕ → Seat
fresh_seat n = record { set = full_set n; ack = true; doubt = false; fault = None }

unfoldable pub zero_ring : Ring
zero_ring = record {
  sets = replicate seats_most no_seat.set;
  acks = replicate seats_most no_seat.ack;
  doubts = replicate seats_most no_seat.doubt;
  faults = replicate seats_most no_seat.fault;
  n = 0;
  time = 0;
  records = 0;
}

-- the ring with its seats below k drawn anew
abbrev pub drawn_to : ℕ → Ring → (ℕ → Seat) → Ring
drawn_to k r seat = record {
  sets = tab k (λ p. (seat p).set) ++ drop k r.sets;
  acks = tab k (λ p. (seat p).ack) ++ drop k r.acks;
  doubts = tab k (λ p. (seat p).doubt) ++ drop k r.doubts;
  faults = tab k (λ p. (seat p).fault) ++ drop k r.faults;
  n = r.n;
  time = r.time;
  records = r.records;
}

-- the ring with so many seats, at a time, with so many records
abbrev pub with_counts : Ring → ℕ → ℕ → ℕ → Ring
with_counts r n time records = record { sets = r.sets; acks = r.acks; doubts = r.doubts; faults = r.faults; n = n; time = time; records = records }

unfoldable pub fresh_ring : ℕ → Ring
fresh_ring n = with_counts (drawn_to n zero_ring (λ p. fresh_seat n)) n 0 0

-- ---- what is a ring

-- a first fault, if there has been one, is before the time
abbrev pub is_past : ℕ → Option ℕ → Bool
is_past time None = true
is_past time (Some t) = ltb t time

-- a seat below n: no seat n or above in its set, and a first fault only before the time
abbrev pub member_stands : ℕ → ℕ → Seat → Bool
member_stands n time s = leb s.set (full_set n) && is_past time s.fault

-- a seat n or above: no member, bit or first fault
abbrev pub absent_stands : Seat → Bool
absent_stands s = eqb s.set 0 && not s.ack && not s.doubt && is_none s.fault

abbrev pub seat_stands : ℕ → ℕ → ℕ → Seat → Bool
seat_stands n time p s = cond (ltb p n) (member_stands n time s) (absent_stands s)

unfoldable pub every_seat_stands : Ring → Bool
every_seat_stands r = all_below seats_most (λ p. seat_stands r.n r.time p (seat_of r p))

-- n is from 2 to 32 and the time at most 4,096; not a ring otherwise, and not where it has more records than
-- the room
unfoldable pub is_ring : Ring → ℕ → Bool
is_ring r room = seats_stand r.n && leb r.time slots_most && leb r.records room && every_seat_stands r
