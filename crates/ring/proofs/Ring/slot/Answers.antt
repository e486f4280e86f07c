-- `slot`: a ring has an owner of the slot. Assumes nothing.
use Rattle.std.proofs.Common.{sym, ◌∙◌, arith}
use Rattle.ring.proofs.Checked.{ring_valid, owner_below}
use Rattle.ring.proofs.Ring.slot.Goals as goal

pub nonzero_rem-owner : goal.nonzero_rem-owner
nonzero_rem-owner c = let v = ring_valid _ _ (sym c.is_ring.ensures ∙ c.if-not-is_ring.false) in omega (arith, v.least)

pub seat-seat-requires : goal.seat-seat-requires
seat-seat-requires c =
    let v = ring_valid _ _ (sym c.is_ring.ensures ∙ c.if-not-is_ring.false) in
    omega (arith, owner_below _ _ v, v.most)
