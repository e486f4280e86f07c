-- The ways of a seat's turn, and what every turn leaves. Assumes nothing.
use mathlib.Core.Path.{◌≡◌, refl}
use mathlib.Core.Bool.{Bool, true, false, cond, ◌&&◌}
use mathlib.Core.Logic.{⊎_elim}
use Prim.Native.Nat.{ℕ, ◌+◌, ◌≤◌}
use native.Mathlib.Nat.{le_refl}
use native.Mathlib.Omega.{arith}
use lib.Dec.{eqb}
use borrow.Author.Tests.{eqb-true, eqb-false, eq-eqb, ne_eqb}
use Rattle.std.specs.Prelude.{Option, None, Some}
use Rattle.lists.specs.Kept.{kept}
use Rattle.lists.proofs.Tests.{both}
use Rattle.seats.specs.Sets.{has_seat}
use Rattle.turn.specs.Table.{decided, gone_by}
use Rattle.turn.specs.Turn.{is_missed, view_of, fault_after, owner_turn, other_turn, still_turn, turn_of}
use Rattle.turn.specs.declared.Seat.{Seat}
use Rattle.turn.specs.declared.Slot.{Slot}
use Rattle.turn.specs.declared.Turn.{Turn}
use Rattle.turn.proofs.GoneLaws.{without_all_le}

-- ---- the four ways of a turn

module _ (c : Slot) (p : ℕ) (s : Seat) where
  -- a seat that is out stands still
  pub turn_out : has_seat s.set p ≡ false → turn_of c p s ≡ still_turn s
  unfolding turn_of
  turn_out h = rw h

  -- the owner, in its own set
  pub turn_owner : has_seat s.set p ≡ true → p ≡ c.owner → turn_of c p s ≡ owner_turn c s
  unfolding turn_of
  turn_owner h e = rw (h, eq-eqb p c.owner e)

  -- another seat, with the owner in its set
  pub turn_other : has_seat s.set p ≡ true → (p ≡ c.owner → ⊥) → has_seat s.set c.owner ≡ true → turn_of c p s ≡ other_turn c p s
  unfolding turn_of
  turn_other h n g = rw (h, ne_eqb p c.owner n, g)

  -- another seat, without the owner in its set, stands still
  pub turn_still : has_seat s.set p ≡ true → (p ≡ c.owner → ⊥) → has_seat s.set c.owner ≡ false → turn_of c p s ≡ still_turn s
  unfolding turn_of
  turn_still h n g = rw (h, ne_eqb p c.owner n, g)

  -- what holds in each of the four holds of the turn
  pub turn_elim : (P : Turn → Type 0)
      → (has_seat s.set p ≡ false → P (still_turn s))
      → (has_seat s.set p ≡ true → p ≡ c.owner → P (owner_turn c s))
      → (has_seat s.set p ≡ true → (p ≡ c.owner → ⊥) → has_seat s.set c.owner ≡ true → P (other_turn c p s))
      → (has_seat s.set p ≡ true → (p ≡ c.owner → ⊥) → has_seat s.set c.owner ≡ false → P (still_turn s))
      → P (turn_of c p s)
  turn_elim P out own other still =
      ⊎_elim
      (λ h.
      ⊎_elim
      (λ e. let q = eqb-true p c.owner e in rw (turn_owner h q) (own h q))
      (λ e.
      let n = eqb-false p c.owner e in
      ⊎_elim (λ g. rw (turn_other h n g) (other h n g)) (λ g. rw (turn_still h n g) (still h n g)) (both (has_seat s.set c.owner)))
      (both (eqb p c.owner)))
      (λ h. rw (turn_out h) (out h))
      (both (has_seat s.set p))

-- ---- what a turn leaves

-- a first fault as one number
pub kept_after : (held : Bool) (time : ℕ) (fault : Option ℕ) → kept (fault_after held time fault) ≡ cond (held && eqb (kept fault) 0) (time + 1) (kept fault)
kept_after false time fault = refl
kept_after true time None = refl
kept_after true time (Some t) = rw (ne_eqb (t + 1) 0 (omega arith)) refl

pub fault_le : (held : Bool) (time : ℕ) (fault : Option ℕ) → kept fault ≤ time + 1 → kept (fault_after held time fault) ≤ time + 1
fault_le held time fault l =
    rw kept_after (⊎_elim (λ e. rw e (le_refl (time + 1))) (λ e. rw e l) (both (held && eqb (kept fault) 0)))

-- a set never grows, and a first fault is not after the step
module _ (c : Slot) (p : ℕ) (s : Seat) where
  pub set_le : (turn_of c p s).seat.set ≤ s.set
  set_le =
      turn_elim c p s (λ t. t.seat.set ≤ s.set)
      (λ h. le_refl s.set)
      (λ h e. le_refl s.set)
      (λ h n g. without_all_le s.set (gone_by p c.owner (decided (view_of c p) s.ack s.doubt).removal))
      (λ h n g. le_refl s.set)

  pub fault_by : kept s.fault ≤ c.time + 1 → kept (turn_of c p s).seat.fault ≤ c.time + 1
  fault_by l =
      turn_elim c p s (λ t. kept t.seat.fault ≤ c.time + 1)
      (λ h. l)
      (λ h e. fault_le c.send c.time s.fault l)
      (λ h n g. fault_le (is_missed (view_of c p)) c.time s.fault l)
      (λ h n g. l)
