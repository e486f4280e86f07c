-- `take`: a refused slot; then the ring drawn, the room tested and the records written. Assumes nothing.
use Rattle.std.proofs.Common.{◌≡◌, refl, sym, ap, ◌∙◌, subst, rules, arith, ℕ, ◌+◌, Bool, Result, Err}
use Rattle.limits.specs.declared.Refused.{Refused}
use Rattle.turn.specs.declared.Slot.{Slot}
use Rattle.ring.specs.Ring.{with_counts}
use Rattle.ring.specs.Step.{count_in, trail_after}
use Rattle.ring.specs.Inside.{Drawable, drawn_of, slot_told}
use Rattle.ring.specs.declared.Ring.{Ring}
use Rattle.ring.proofs.Drawing.{counts_few}
use Rattle.ring.proofs.Records.{write_none}
use Rattle.ring.proofs.Refusing.{let_through, drawable, refuse, too_many, take}
use Rattle.ring.proofs.Ring.take.Goals as goal
use Rattle.ring.proofs.Ring.take.Goals.{then-count-ne0, else-count-ne0}

-- the slot that was let through, with the room of the lent trail
let_on : (r : Ring) (send : Bool) (receive : ℕ) {room most : ℕ} {made found : Result Slot Refused} → made ≡ slot_told r send receive room → room ≡ most → made ≡ found
    → found ≡ slot_told r send receive most
let_on r send receive told room here = sym here ∙ told ∙ ap (slot_told r send receive) room

pub returns-in_err-slot : goal.returns-in_err-slot
returns-in_err-slot c =
    let a = c.args in
    let e : c.from_residual.result ≡ Err c.in_err-slot.field-0.0 = search rules in
    rw (e, c.requires) (refuse a.self.now a.send a.receive a.trail.now (let_on _ _ _ c.slot.ensures c.room_for-room.ensures c.in_err-slot.was))

pub draw-count-requires : goal.draw-count-requires
draw-count-requires c =
    subst (λ (r : Ring). Drawable r c.in_ok-slot.slot) (sym c.requires) (drawable (let_through (let_on _ _ _ c.slot.ensures refl c.in_ok-slot.was)))

pub overflow_add-total : goal.overflow_add-total
overflow_add-total c =
    let v = (let_through (let_on _ _ _ c.slot.ensures refl c.in_ok-slot.was)).valid in
    omega (arith, v.fits, v.most, (c.draw-count.ensures.counted ∙ ap (λ (r : Ring). count_in r c.in_ok-slot.slot) c.requires), counts_few c.args.self.now c.in_ok-slot.slot c.args.self.now.n)

pub returns-then-room-total : goal.returns-then-room-total
returns-then-room-total c =
    let a = c.args in
    let many = (c.draw-count.ensures.counted ∙ ap (λ (r : Ring). count_in r c.in_ok-slot.slot) c.requires) in
    rw c.at.ensures
    (too_many a.self.now a.send a.receive a.trail.now c.in_ok-slot.slot (let_on _ _ _ c.slot.ensures c.room_for-room.ensures c.in_ok-slot.was) (omega (arith, c.room_for-room.ensures)))

pub write-requires-clause-drawable : goal.write-requires-clause-drawable
write-requires-clause-drawable c = drawable (let_through (let_on _ _ _ c.slot.ensures refl c.in_ok-slot.was))

pub overflow_add-next : goal.overflow_add-next
overflow_add-next c = let v = (let_through (let_on _ _ _ c.slot.ensures refl c.in_ok-slot.was)).valid in omega (arith, v.soon)

pub returns : goal.returns
returns c =
    let a = c.args in
    let slot = c.in_ok-slot.slot in
    let many = (c.draw-count.ensures.counted ∙ ap (λ (r : Ring). count_in r c.in_ok-slot.slot) c.requires) in
    let written : c.if-count-ne0.trail ≡ trail_after a.self.now slot a.trail.now =
    elim c.if-count-ne0.branch [
      | then-count-ne0 w ↦ w.trail-is ∙ w.write.ensures
      | else-count-ne0 w ↦ w.trail-is ∙ sym (write_none a.self.now slot a.trail.now a.self.now.records (sym many ∙ omega arith))
    ] in
    take a.self.now a.send a.receive a.trail.now slot (let_on _ _ _ c.slot.ensures c.room_for-room.ensures c.in_ok-slot.was) (omega (arith, c.room_for-room.ensures))
    (ap (λ (x : Ring). with_counts x x.n (a.self.now.time + 1) (a.self.now.records + c.draw-count.result)) (c.draw-count.ensures.drawn ∙ ap (λ (r : Ring). drawn_of r slot) c.requires)
    ∙ ap (λ (k : ℕ). with_counts (drawn_of a.self.now slot) a.self.now.n (a.self.now.time + 1) (a.self.now.records + k)) many)
    written
