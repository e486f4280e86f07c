-- The engine's ring read as a state of the model, and the engine's step as the model's. Assumes nothing.
use mathlib.Core.Bool.{Bool, false, not, ◌&&◌}
use mathlib.Core.Logic.{⊎_elim}
use mathlib.Core.Path.{◌≡◌, sym, ap, ◌∙◌, subst}
use Prim.Native.Nat.{ℕ, ◌≤◌}
use native.Mathlib.Numerals.{add-one}
use lib.Dec.{eqb, ltb}
use borrow.Author.Tests.{ltb-true, ltb-false}
use Rattle.std.specs.Prelude.{Option}
use Rattle.lists.proofs.Tests.{both}
use Rattle.seats.specs.Sets.{has_seat}
use Rattle.seats.proofs.Sets.{nobody_in}
use Rattle.ring.specs.Ring.{seat_of, owner_of}
use Rattle.turn.specs.Table.{Row, table, arrived, bit_of, decided}
use Rattle.turn.specs.Turn.{view_of, is_missed, fault_after, owner_turn, other_turn, turn_of}
use Rattle.ring.specs.Step.{slot_of, ring_after}
use Rattle.ring.specs.declared.Ring.{Ring}
use Rattle.turn.specs.declared.Seat.{Seat}
use Rattle.turn.specs.declared.Slot.{Slot}
use Rattle.turn.proofs.GoneLaws.{takes_itself, takes_owner, gone_has}
use Rattle.steps.proofs.Seen.{view_table, view_missed}
use Rattle.turn.proofs.TurnLaws.{turn_elim}
use Rattle.steps.proofs.After.{seat_after, seat_beyond}
use Rattle.demand3.proofs.Model.{State, Marked, owns, acts, rests, role}
use Rattle.demand3.proofs.Model.{speaks, row, learns, hold, left, step}
use Rattle.demand3.proofs.Seat.{role_own, role_act, role_out, role_blind, Still, still}

abbrev pub state_of : Ring → State
state_of r = record {
  n = r.n;
  time = r.time;
  set = λ p q. has_seat (seat_of r p).set q;
  ack = λ p. (seat_of r p).ack;
  doubt = λ p. (seat_of r p).doubt;
  fault = λ p. (seat_of r p).fault;
}

-- a step of it with its marks
abbrev pub marked_of : Ring → Bool → ℕ → Marked
marked_of r send receive = record { now = state_of r; send = send; receive = has_seat receive }

-- ---- one seat

-- the seat s is seat p of the model after the step
record Matches (t : Marked) (p : ℕ) (s : Seat) : Type 0 where
  set : (q : ℕ) → has_seat s.set q ≡ (step t).set p q
  ack : s.ack ≡ (step t).ack p
  doubt : s.doubt ≡ (step t).doubt p
  fault : s.fault ≡ (step t).fault p

module _ (r : Ring) (send : Bool) (receive : ℕ) where
  abbrev slot : Slot
  slot = slot_of r send receive

  abbrev t : Marked
  t = marked_of r send receive

  -- what the owner has to say
  abbrev bit : Bool
  bit = (seat_of r (owner_of r)).ack

  -- where as much took hold, the first fault is the same
  first_is : {held : Bool} (mark : Bool) (fault : Option ℕ) → held ≡ mark → fault_after mark r.time fault ≡ fault_after held r.time fault
  first_is mark fault e = rw e

  module _ (p : ℕ) where
    abbrev s : Seat
    s = seat_of r p

    stays : role t p ≡ rests → Matches t p s
    stays e =
        let z : Still t p = still t p e in
        record { set = λ q. sym (z.set q); ack = sym z.ack; doubt = sym z.doubt; fault = first_is false s.fault z.hold }

    owning : role t p ≡ owns → Matches t p (owner_turn slot s).seat
    owning o =
        let h : hold t p ≡ send = cc in
        record {
          set = λ q. cc;
          ack = cc;
          doubt = cc;
          fault = first_is send s.fault h;
        }

    told : table (arrived (view_of slot p)) (bit_of (view_of slot p)) s.ack s.doubt ≡ row t p
    told = view_table (speaks t) (has_seat receive p) bit s.ack s.doubt

    acting : role t p ≡ acts → Matches t p (other_turn slot p s).seat
    acting o =
        let h : hold t p ≡ (speaks t && has_seat receive p) = cc in
        let k : (step t).ack p ≡ learns t p = cc in
        record {
          set = λ q.
              let e : (step t).set p q ≡ left t p q = cc in
              gone_has s.set p slot.owner q (decided (view_of slot p) s.ack s.doubt).removal
              ∙ ap
              (λ (x : Row). has_seat s.set q && not (takes_itself x.removed && eqb q p) && not (takes_owner x.removed && eqb q slot.owner))
              told
              ∙ sym e;
          ack = ap (λ (x : Row). x.ack) told ∙ sym k;
          doubt = cc;
          fault = first_is (is_missed (view_of slot p)) s.fault (h ∙ sym (view_missed (speaks t) (has_seat receive p) bit));
        }

    matches : Matches t p (turn_of slot p s).seat
    matches =
        turn_elim slot p s (λ u. Matches t p u.seat)
        (λ h. stays (role_out t p h))
        (λ h e. owning (role_own t p e h))
        (λ h n g. acting (role_act t p n h g))
        (λ h n g. stays (role_blind t p n g))

-- ---- the ring

-- no seat n or above is in anybody's way: its set is empty
abbrev pub EmptyBeyond : Ring → Type 0
EmptyBeyond r = (p : ℕ) → r.n ≤ p → (seat_of r p).set ≡ 0

module _ (r : Ring) (send : Bool) (receive : ℕ) (empty : EmptyBeyond r) where
  abbrev later : Ring
  later = ring_after r (slot_of r send receive)

  pub empty_after : EmptyBeyond later
  empty_after p h = ap (λ (s : Seat). s.set) (seat_beyond r (slot_of r send receive) p h) ∙ empty p h

  matches_after : (p : ℕ) → Matches (marked_of r send receive) p (seat_of later p)
  matches_after p =
      ⊎_elim
      (λ e.
      subst (Matches (marked_of r send receive) p) (sym (seat_after r (slot_of r send receive) p (ltb-true p r.n e)))
      (matches r send receive p))
      (λ e.
      let h = ltb-false p r.n e in
      let o = role_out (marked_of r send receive) p (ap (λ (x : ℕ). has_seat x p) (empty p h) ∙ nobody_in p) in
      subst (Matches (marked_of r send receive) p) (sym (seat_beyond r (slot_of r send receive) p h)) (stays r send receive p o))
      (both (ltb p r.n))

  pub state_after : state_of later ≡ step (marked_of r send receive)
  state_after = λ i. record {
    n = r.n;
    time = add-one r.time i;
    set = λ p q. (matches_after p).set q i;
    ack = λ p. (matches_after p).ack i;
    doubt = λ p. (matches_after p).doubt i;
    fault = λ p. (matches_after p).fault i;
  }
