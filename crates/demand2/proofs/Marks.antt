-- A mark that does not take hold changes nothing. Assumes nothing.
use mathlib.Core.Path.{◌≡◌, refl, sym, ap, ◌∙◌}
use mathlib.Core.Bool.{Bool, true, false, not, ◌&&◌, true≢false}
use Prim.Native.Nat.{ℕ}
use Rattle.std.proofs.Common.{Option, Some, None}
use Rattle.seats.specs.Sets.{has_seat}
use Rattle.seats.proofs.Sets.{without_other}
use Rattle.ring.specs.Ring.{seat_of, owner_of}
use Rattle.turn.specs.Turn.{other_turn, turn_of}
use Rattle.ring.specs.Step.{slot_of}
use Rattle.turn.specs.declared.Seat.{Seat}
use Rattle.turn.specs.declared.Slot.{Slot}
use Rattle.turn.specs.declared.Turn.{Turn}
use Rattle.turn.proofs.TurnLaws.{turn_out, turn_owner, turn_other, turn_still, turn_elim}
use Rattle.demand2.specs.Marks.{speaks, unmarked, IdleSend, IdleReceive, OwnReceive}

-- a seat that expects the owner hears nothing where the owner is silent, marked or not
silent_same : (c : Slot) (p q : ℕ) (s : Seat) → speaks c.spoken ≡ false → other_turn (unmarked c q) p s ≡ other_turn c p s
silent_same c p q s e = rw (nothing c.spoken e)
  where
    nothing : (x : Option Bool) → speaks x ≡ false → x ≡ None
    nothing None e = refl
    nothing (Some bit) e = absurd (true≢false e)

holds_not : (a b c : Bool) → a ≡ true → b ≡ true → (not (not a) && b && c) ≡ false → c ≡ false
holds_not true true c x y e = e
holds_not true false c x y e = absurd (true≢false (sym y))
holds_not false b c x y e = absurd (true≢false (sym x))

pub idle_receive : IdleReceive
idle_receive c p s e =
    let d = unmarked c p in
    turn_elim c p s (λ (t : Turn). turn_of d p s ≡ t)
    (λ h. turn_out d p s h)
    (λ h q. turn_owner d p s h q)
    (λ h n g. turn_other d p s h n g ∙ silent_same c p p s (holds_not (has_seat s.set p) (has_seat s.set c.owner) (speaks c.spoken) h g e))
    (λ h n g. turn_still d p s h n g)

pub own_receive : OwnReceive
own_receive c p q s away =
    let d = unmarked c q in
    turn_elim c p s (λ (t : Turn). turn_of d p s ≡ t)
    (λ h. turn_out d p s h)
    (λ h e. turn_owner d p s h e)
    (λ h n g. turn_other d p s h n g ∙ rw (without_other c.receive q p away))
    (λ h n g. turn_still d p s h n g)

not_out : (a : Bool) → not (not a) ≡ false → a ≡ false
not_out true e = e
not_out false e = refl

pub idle_send : IdleSend
idle_send r receive p e =
    let c = slot_of r false receive in
    let d = slot_of r true receive in
    let s = seat_of r p in
    let gone = not_out (has_seat (seat_of r (owner_of r)).set (owner_of r)) e in
    turn_elim c p s (λ (t : Turn). turn_of d p s ≡ t)
    (λ h. turn_out d p s h)
    (λ h q. absurd (true≢false (sym h ∙ ap (λ (x : ℕ). has_seat (seat_of r x).set x) q ∙ gone)))
    (λ h n g. turn_other d p s h n g ∙ rw gone)
    (λ h n g. turn_still d p s h n g)
