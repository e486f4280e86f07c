-- The invariant holds of a fresh state, and every step within the fault terms keeps it. Assumes nothing.
use mathlib.Core.Bool.{Bool, true, false, not, ◌&&◌, false≢true, true≢false}
use mathlib.Core.Logic.{◌⊎◌, inl, inr, ⊎_elim}
use mathlib.Core.Path.{◌≡◌, sym, ap}
use Prim.Native.Nat.{ℕ, suc, ◌<◌}
use native.Mathlib.Omega.{arith}
use lib.Dec.{eqb}
use borrow.Author.Tests.{eqb-true, eqb-false, ne_eqb, not-true}
use Rattle.std.specs.Prelude.{is_none}
use Rattle.lists.proofs.Kept.{none_is}
use Rattle.lists.proofs.Tests.{both, and-true}
use Rattle.lists.proofs.Found.{found}
use Rattle.demand3.proofs.Model.{State, Marked, owner, step, Fresh, Sound, Faulty, Terms}
use Rattle.demand3.proofs.Seat.{Kind, sound, faulty, kind}
use Rattle.demand3.proofs.Invariant.{Inv}
use Rattle.demand3.proofs.Moves.{Move, slot_seat}
use Rattle.demand3.proofs.Sent.{sent}
use Rattle.demand3.proofs.Missed.{missed}
use Rattle.demand3.proofs.Spoken.{spoken}
use Rattle.demand3.proofs.Removed.{removed}
use Rattle.demand3.proofs.Idle.{idle}

pub record Kept (s : State) : Type 0 where
  pub last : ℕ
  pub bit : Bool
  pub due : Bool
  pub inv : Inv s last bit due

pub fresh_kept : (s : State) → Fresh s → Kept s
fresh_kept s new = record { last = 0; bit = true; due = false; inv = inv }
  where
    none : {x f : ℕ} → Faulty s x f → ⊥
    none y = cc (y.since, new.clean y.seat)

    inv : Inv s 0 true false
    inv = record {
      size = new.size;
      since = omega arith;
      most = λ y. absurd (none y);
      top = λ k. absurd (omega arith);
      holds = λ p. record {
        friends = λ q. new.full p.seat q.seat;
        others = λ y. absurd (none y);
        says = new.says p.seat;
        sure = λ k. new.sure p.seat;
      };
      old = λ y. absurd (none y);
      late = λ y. absurd (none y);
      pend = λ k. absurd (false≢true k);
      over = λ k y. absurd (none y);
      low = λ k. absurd (true≢false k);
    }

-- ---- a sound seat that misses the owner, or none

data Misses (t : Marked) : Type 0 where
  one : (c : ℕ) → Sound t.now c → (c ≡ owner t → ⊥) → t.receive c ≡ true → Misses t
  none : ((p : ℕ) → Sound t.now p → (p ≡ owner t → ⊥) → t.receive p ≡ false) → Misses t

module _ (t : Marked) where
  open t use {now, receive}

  abbrev marked : ℕ → Bool
  marked p = receive p && is_none (now.fault p) && not (eqb p (owner t))

  misses : Misses t
  misses = go (found marked now.n)
    where
      go : ((p : ℕ) × (p < now.n) × (marked p ≡ true)) ⊎ ((p : ℕ) → p < now.n → marked p ≡ false) → Misses t
      go (inl (p, h, e)) =
          let k = and-true _ _ e in
          let j = and-true _ _ k.0 in
          one p (record { seat = h; clean = none_is _ j.1 }) (eqb-false p (owner t) (not-true _ k.1)) j.0
      go (inr free) = none (λ p sp ne.
          let k : marked p ≡ false = free p sp.seat in
          ⊎_elim
          (λ y. absurd (true≢false (cc (k, y, ap is_none sp.clean, ne_eqb p (owner t) ne))))
          (λ y. y)
          (both (receive p)))

-- ---- the five kinds of step

pub step_kept : (t : Marked) → Kept t.now → Terms (step t) → Kept (step t)
step_kept t w terms = by_owner (kind t.now (owner t) (slot_seat m t.now.time))
  where
    m : Move
    m = record { given = t; last = w.last; bit = w.bit; due = w.due; inv = w.inv; terms = terms }

    spoke : Sound t.now (owner t) → t.send ≡ false → Misses t → Kept (step t)
    spoke so es (one c sc nc mc) = record { last = suc t.now.time; bit = true; due = true; inv = missed m so es c sc nc mc }
    spoke so es (none k) = record { last = w.last; bit = true; due = w.due; inv = spoken m so es k }

    silent : Sound t.now (owner t) → t.send ≡ true → Kept (step t)
    silent so es = record { last = suc t.now.time; bit = false; due = false; inv = sent m so es }

    drops : (g : ℕ) → Faulty t.now (owner t) g → w.last ≡ suc g → w.due ≡ true → Kept (step t)
    drops g fo el ep = record { last = w.last; bit = false; due = false; inv = removed m g fo el ep }

    rests : (g : ℕ) → Faulty t.now (owner t) g → (w.due && eqb (suc g) w.last) ≡ false → Kept (step t)
    rests g fo e = record { last = w.last; bit = w.bit; due = w.due; inv = idle m g fo e }

    by_owner : Kind t.now (owner t) → Kept (step t)
    by_owner (sound so) = ⊎_elim (λ e. silent so e) (λ e. spoke so e (misses t)) (both t.send)
    by_owner (faulty g fo) =
        ⊎_elim
        (λ e. let k = and-true w.due (eqb (suc g) w.last) e in drops g fo (sym (eqb-true _ _ k.1)) k.0)
        (λ e. rests g fo e)
        (both (w.due && eqb (suc g) w.last))
