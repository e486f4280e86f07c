-- Laws of a ring that is drawn anew seat by seat, and of how many it counts. Assumes nothing.
use mathlib.Core.Path.{◌≡◌}
use mathlib.Core.Bool.{false}
use Prim.Native.Nat.{ℕ, ◌+◌, ◌*◌, ◌≤◌, ◌<◌}
use native.Mathlib.Omega.{arith}
use lib.ListN.{length, set}
use Rattle.std.specs.Prelude.{None}
use Rattle.lists.proofs.Counted.{draw_next, draw_same, drawn_above, sum_at_most}
use Rattle.turn.specs.declared.Seat.{Seat}
use Rattle.turn.specs.declared.Slot.{Slot}
use Rattle.turn.proofs.GoneLaws.{count_is, count_few}
use Rattle.lists.specs.Counted.{sum}
use Rattle.ring.specs.Ring.{seat_of, drawn_to}
use Rattle.ring.specs.Step.{turn_at, count_at}
use Rattle.ring.specs.declared.Ring.{Ring}

-- each of the ring's arrays has room for seat p
pub record Wide (r : Ring) (p : ℕ) : Type 0 where
  pub sets : p < length r.sets
  pub acks : p < length r.acks
  pub doubts : p < length r.doubts
  pub faults : p < length r.faults

-- the ring with seat p stored
abbrev pub stored : Ring → ℕ → Seat → Ring
stored r p s = record {
  sets = set r.sets p s.set;
  acks = set r.acks p s.ack;
  doubts = set r.doubts p s.doubt;
  faults = set r.faults p s.fault;
  n = r.n;
  time = r.time;
  records = r.records;
}

-- one more seat is drawn
pub drawn_next : (r : Ring) (seat : ℕ → Seat) (p : ℕ) → Wide r p → stored (drawn_to p r seat) p (seat p) ≡ drawn_to (p + 1) r seat
drawn_next r seat p w =
    rw (draw_next p (λ q. (seat q).set) r.sets w.sets, draw_next p (λ q. (seat q).ack) r.acks w.acks, draw_next p (λ q. (seat q).doubt) r.doubts w.doubts, draw_next p (λ q. (seat q).fault) r.faults w.faults)

-- a seat that is not drawn yet is as it came
pub undrawn_seat : (k : ℕ) (r : Ring) (seat : ℕ → Seat) (p : ℕ) → k ≤ p → seat_of (drawn_to k r seat) p ≡ seat_of r p
undrawn_seat k r seat p l = λ i. record {
  set = drawn_above k (λ q. (seat q).set) r.sets 0 p l i;
  ack = drawn_above k (λ q. (seat q).ack) r.acks false p l i;
  doubt = drawn_above k (λ q. (seat q).doubt) r.doubts false p l i;
  fault = drawn_above k (λ q. (seat q).fault) r.faults None p l i;
}

-- a seat that keeps all is drawn already
pub drawn_still : (r : Ring) (seat : ℕ → Seat) (p : ℕ) → Wide r p → seat p ≡ seat_of r p → drawn_to p r seat ≡ drawn_to (p + 1) r seat
drawn_still r seat p w e = λ i. record {
  sets = draw_same p (λ q. (seat q).set) r.sets 0 w.sets (λ j. (e j).set) i;
  acks = draw_same p (λ q. (seat q).ack) r.acks false w.acks (λ j. (e j).ack) i;
  doubts = draw_same p (λ q. (seat q).doubt) r.doubts false w.doubts (λ j. (e j).doubt) i;
  faults = draw_same p (λ q. (seat q).fault) r.faults None w.faults (λ j. (e j).fault) i;
  n = r.n;
  time = r.time;
  records = r.records;
}

-- the turns of k seats take at most twice as many
pub counts_few : (r : Ring) (c : Slot) (k : ℕ) → sum k (count_at r c) ≤ 2 * k
counts_few r c k =
    sum_at_most (count_at r c) 2 k (λ p l. let e = count_is p c.owner (turn_at r c p).removal in let f = count_few (turn_at r c p).removal in omega arith)
