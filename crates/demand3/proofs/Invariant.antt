-- The invariant of a run within the fault terms, over the present state alone: `last` is one more than the
-- time of the latest first fault (0: none), `bit` the acknowledgement of the sound seats, and `due` whether
-- the latest faulty seat is still in their sets, its own slot being still to come. Assumes nothing.
use mathlib.Core.Bool.{Bool, true, false, not, ◌&&◌, ◌||◌}
use mathlib.Core.Logic.{◌⊎◌, ⊎_elim}
use mathlib.Core.Path.{◌≡◌}
use Prim.Native.Nat.{ℕ, suc, ◌+◌, ◌%◌, ◌≤◌, ◌<◌}
use native.Mathlib.Omega.{arith}
use lib.Dec.{eqb, ltb}
use borrow.Author.Tests.{ltb-true, ltb-false}
use Rattle.limits.specs.Limits.{seats_least}
use Rattle.lists.proofs.Tests.{both, same?}
use Rattle.demand3.proofs.Slots.{OwnSlot, own_slot}
use Rattle.demand3.proofs.Model.{State, Sound, Faulty}

module _ (s : State) where
  open s use {n, time, set, ack, doubt}

  -- what a sound seat holds: every sound seat, and of the faulty ones the latest, while it is due
  pub record Holds (last : ℕ) (bit due : Bool) (p : ℕ) : Type 0 where
    pub friends : {q : ℕ} → Sound s q → set p q ≡ true
    pub others : {x f : ℕ} → Faulty s x f → set p x ≡ (due && eqb (suc f) last)
    pub says : ack p ≡ bit
    pub sure : (due || not bit) ≡ true → doubt p ≡ false

  abbrev pub Alone : ℕ → Type 0
  Alone x = (q : ℕ) → q < n → set x q ≡ true → q ≡ x

  -- seat u has had no slot from time f on
  abbrev pub Ahead : ℕ → ℕ → Type 0
  Ahead f u = (k : ℕ) → f ≤ k → k < time → k % n ≡ u → ⊥

  -- the latest faulty seat, with its first fault at f, while it is in and has others in its set: its bit is
  -- not that of the sound seats, and each other that it has is sound and has still to speak
  pub record Active (f : ℕ) (bit due : Bool) (x : ℕ) : Type 0 where
    pub inside : set x x ≡ true
    pub kin : (u : ℕ) → u < n → set x u ≡ true → (u ≡ x → ⊥) → Sound s u × Ahead f u
    pub opposite : ack x ≡ not bit
    pub full : (due || not bit) ≡ true → {u : ℕ} → Sound s u → (u ≡ f % n → ⊥) → set x u ≡ true
    pub past : due ≡ false → (k : ℕ) → time ≤ k → k < f + n → k % n ≡ x → ⊥

  pub data Latest (f : ℕ) (bit due : Bool) (x : ℕ) : Type 0 where
    gone : set x x ≡ false → Latest f bit due x
    alone : Alone x → (due ≡ true → ack x ≡ false) → Latest f bit due x
    active : Active f bit due x → time < f + n → Latest f bit due x

  -- while it is due: its own slot is still to come, and the owner that it missed is sound
  pub record Pending (last : ℕ) (bit : Bool) : Type 0 where
    pub f : ℕ
    pub x : ℕ
    pub is : last ≡ suc f
    pub late : Faulty s x f
    pub heard : bit ≡ true
    pub missed : Sound s (f % n)
    pub ahead : Ahead f x

  -- a sound seat's slot comes before any further first fault
  pub record Low (last : ℕ) : Type 0 where
    pub f : ℕ
    pub k : ℕ
    pub is : last ≡ suc f
    pub low : time ≤ k
    pub high : k ≤ f + n
    pub next : Sound s (k % n)

  abbrev pub NoneSound : Type 0
  NoneSound = (p : ℕ) → Sound s p → ⊥

  pub record Top (last : ℕ) : Type 0 where
    pub f : ℕ
    pub x : ℕ
    pub is : last ≡ suc f
    pub late : Faulty s x f

  -- seat x has had a slot from time f on
  pub record Passed (f x : ℕ) : Type 0 where
    pub k : ℕ
    pub low : f ≤ k
    pub high : k < time
    pub owner : k % n ≡ x

  pub record Inv (last : ℕ) (bit due : Bool) : Type 0 where
    pub size : seats_least ≤ n
    pub since : last ≤ time
    pub most : {x f : ℕ} → Faulty s x f → f < last
    pub top : 0 < last → Top last
    pub holds : {p : ℕ} → Sound s p → Holds last bit due p
    pub old : {x f : ℕ} → Faulty s x f → suc f < last → (set x x ≡ false) ⊎ Alone x
    pub late : {x f : ℕ} → Faulty s x f → last ≡ suc f → Latest f bit due x
    pub pend : due ≡ true → Pending last bit
    pub over : due ≡ false → {x f : ℕ} → Faulty s x f → last ≡ suc f → Passed f x
    pub low : bit ≡ false → Low last ⊎ NoneSound

  -- what is due comes within n slots
  pub soon : {last : ℕ} {bit : Bool} (w : Pending last bit) → time < w.f + n
  soon w =
      ⊎_elim
      (λ e. ltb-true _ _ e)
      (λ e. past (ltb-false _ _ e) (own_slot n w.x w.f w.late.seat))
      (both (ltb time (w.f + n)))
    where
      past : w.f + n ≤ time → OwnSlot n w.x w.f → time < w.f + n
      past h g = absurd (w.ahead g.at g.low (omega arith) g.owner)

  -- an active seat whose n slots have run out is alone
  pub settle : {f : ℕ} {bit due : Bool} {x : ℕ} → f < time → (due ≡ true → time < f + n) → Active f bit due x → Latest f bit due x
  settle {f} {bit} {due} {x} h pending act =
      ⊎_elim (λ e. active act (ltb-true _ _ e)) (λ e. past (ltb-false _ _ e)) (both (ltb time (f + n)))
    where
      other : f + n ≤ time → (q : ℕ) → q < n → set x q ≡ true → (q ≡ x → ⊥) → OwnSlot n q f → ⊥
      other le q hq e ne g = (act.kin q hq e ne).1 g.at g.low (omega arith) g.owner

      only : f + n ≤ time → Alone x
      only le q hq e = ⊎_elim (λ y. y) (λ y. absurd (other le q hq e y (own_slot n q f hq))) (same? q x)

      past : f + n ≤ time → Latest f bit due x
      past le = alone (only le) (λ y. absurd (omega (arith, pending y)))
