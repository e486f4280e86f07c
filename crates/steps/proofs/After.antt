-- The ring and the trail after a step: the seats, the records' bytes, and that a ring leads to a ring.
-- Assumes nothing.
use mathlib.Core.Path.{◌≡◌, ◌∙◌}
use mathlib.Core.Bool.{Bool}
use mathlib.Core.List.{List}
use Prim.Native.Nat.{ℕ, ◌+◌, ◌*◌, ◌≤◌, ◌<◌}
use native.Mathlib.Nat.{le_refl}
use native.Mathlib.Omega.{arith}
use lib.ListN.{length}
use Rattle.limits.specs.Limits.{slots_most}
use Rattle.ring.specs.Ring.{seat_of}
use Rattle.turn.specs.Turn.{turn_of}
use Rattle.ring.specs.Step.{slot_of, turn_at, count_in, ring_after, trail_after}
use Rattle.trail.specs.Trail.{width}
use Rattle.ring.proofs.Records.{length-written}
use Rattle.ring.specs.declared.Ring.{Ring}
use Rattle.turn.specs.declared.Slot.{Slot}
use Rattle.ring.proofs.Checked.{Valid, Member}
use Rattle.ring.proofs.Drawing.{undrawn_seat}
use Rattle.steps.proofs.Drawn.{drawn_seat}
use Rattle.turn.proofs.TurnLaws.{set_le, fault_by}

-- ---- the seats

module _ (r : Ring) (c : Slot) where
  -- a seat below n is as its turn leaves it
  pub seat_after : (p : ℕ) → p < r.n → seat_of (ring_after r c) p ≡ (turn_of c p (seat_of r p)).seat
  seat_after = drawn_seat r.n r (λ q. (turn_at r c q).seat)

  -- a seat n or above is as it was
  pub seat_beyond : (p : ℕ) → r.n ≤ p → seat_of (ring_after r c) p ≡ seat_of r p
  seat_beyond = undrawn_seat r.n r (λ q. (turn_at r c q).seat)

-- ---- the records

-- the trail keeps its length where they fit
pub length_after : (r : Ring) (c : Slot) (t : List ℕ) → width * (r.records + count_in r c) ≤ length t → length (trail_after r c t) ≡ length t
length_after r c t l = length-written r c t r.records l r.n (le_refl r.n)

-- ---- a ring leads to a ring

pub valid_after : (r : Ring) (send : Bool) (receive room : ℕ) → Valid r room → r.time < slots_most
    → r.records + count_in r (slot_of r send receive) ≤ room → Valid (ring_after r (slot_of r send receive)) room
valid_after r send receive room v early fit =
    let c = slot_of r send receive in
    record {
      least = v.least;
      most = v.most;
      soon = omega arith;
      fits = fit;
      member = λ p l.
          let m = v.member p l in
          let s = set_le c p (seat_of r p) in
          let q = m.past in
          let f = fault_by c p (seat_of r p) (omega arith) in
          let i = m.inside in
          let n : Member r.n (r.time + 1) (turn_at r c p).seat = record { inside = omega arith; past = f } in
          rw (seat_after r c p l) n;
      absent = λ p l m. seat_beyond r c p l ∙ v.absent p l m;
    }
