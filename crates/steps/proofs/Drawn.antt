-- The seats of a ring that is drawn anew up to some seat. Assumes nothing.
use mathlib.Core.Path.{◌≡◌}
use mathlib.Core.Bool.{false}
use Prim.Native.Nat.{ℕ, ◌<◌}
use Rattle.std.specs.Prelude.{None}
use Rattle.lists.proofs.Counted.{drawn_below}
use Rattle.ring.specs.Ring.{seat_of, drawn_to}
use Rattle.ring.specs.declared.Ring.{Ring}
use Rattle.turn.specs.declared.Seat.{Seat}

module _ (k : ℕ) (r : Ring) (seat : ℕ → Seat) (p : ℕ) where
  pub drawn_seat : p < k → seat_of (drawn_to k r seat) p ≡ seat p
  drawn_seat l =
      let s = drawn_below k (λ q. (seat q).set) r.sets 0 p l in
      let a = drawn_below k (λ q. (seat q).ack) r.acks false p l in
      let d = drawn_below k (λ q. (seat q).doubt) r.doubts false p l in
      let f = drawn_below k (λ q. (seat q).fault) r.faults None p l in
      λ i. record { set = s i; ack = a i; doubt = d i; fault = f i }
