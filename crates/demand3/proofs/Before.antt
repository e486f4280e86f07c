-- The fault terms of a ring: what they say of the state that it is read as, and that they held before every
-- step. Assumes nothing.
use mathlib.Core.List.{List}
use mathlib.Core.Path.{◌≡◌, sym, ap, ◌∙◌, subst}
use Prim.Native.Nat.{ℕ, ◌+◌, ◌≤◌, ◌<◌}
use native.Mathlib.Omega.{arith}
use Rattle.lists.specs.Kept.{kept}
use Rattle.limits.specs.Limits.{seats_least, seats_most, room_most}
use Rattle.limits.specs.Refusals.{done}
use Rattle.ring.specs.Refusals.{verdict_found, within}
use Rattle.ring.specs.declared.Ring.{Ring}
use Rattle.steps.specs.Run.{Marks, Bench, told_on, step_on, Reached}
use Rattle.ring.specs.Valid.{Valid}
use Rattle.ring.proofs.Checked.{valid_ring, valid_wider}
use Rattle.steps.proofs.Reached.{bench_after, step_after, reached_stands}
use Rattle.demand3.specs.Faults.{FirstFault, Apart, TermsHold}
use Rattle.demand3.specs.Verdict.{TermsKept}
use Rattle.demand3.proofs.Model.{State, Faulty, Terms}
use Rattle.demand3.proofs.Seat.{stays_faulty}
use Rattle.demand3.proofs.View.{state_of, marked_of, state_after}
use Rattle.demand3.proofs.Along.{along}
use Rattle.demand3.proofs.Decided.{decides}
use Rattle.demand3.proofs.Read.{to_faulty, from_faulty}

-- ---- the fault terms, of the ring and of the state

module _ (r : Ring) (room : ℕ) (v : Valid r room) where
  -- every first fault is before the time
  past : {x t : ℕ} → FirstFault r x t → t < r.time
  past {x} y = omega (arith, ap kept y.since, (v.member x y.seat).past)

  pub apart_of : TermsKept r → Apart (r.n + 1) r r.time
  apart_of w = record { spaced = λ {x} {y} {f} {g} fx fy ne l m. (w g (past fy)).apart.spaced fx fy ne l (omega arith) }

  pub terms_of : Apart (r.n + 1) r r.time → Terms (state_of r)
  terms_of w = record {
    apart = λ {x} {y} {f} {g} fx fy ne l.
        omega (arith, w.spaced (from_faulty r fx) (from_faulty r fy) ne l (omega (arith, past (from_faulty r fy))));
  }

-- ---- a step before

module _ (n : ℕ) (trail : List ℕ) (low : seats_least ≤ n) (high : n ≤ seats_most) {b : Bench} (run : Reached n trail b) (m : Marks) where
  -- first faults are never forgotten
  remembered : {x f : ℕ} → FirstFault b.ring x f → FirstFault (bench_after m b).ring x f
  remembered {x} {f} y =
      let is = state_after b.ring m.send m.receive (along n trail low high run).empty in
      from_faulty (bench_after m b).ring
      (subst (λ (s : State). Faulty s x f) (sym is) (stays_faulty (marked_of b.ring m.send m.receive) (to_faulty b.ring y)))

  held : (t : ℕ) → TermsHold (bench_after m b).ring t → TermsHold b.ring t
  held t w = record {
    apart = record { spaced = λ fx fy. w.apart.spaced (remembered fx) (remembered fy) };
    sound = record {
      one = w.sound.one;
      other = w.sound.other;
      differ = w.sound.differ;
      one_sound = record { seat = w.sound.one_sound.seat; later = λ y. w.sound.one_sound.later (remembered y) };
      other_sound = record { seat = w.sound.other_sound.seat; later = λ y. w.sound.other_sound.later (remembered y) };
    };
  }

  -- a verdict `within` after a step was one before it
  pub within_before : told_on m b ≡ done → verdict_found (step_on m b).ring ≡ within → verdict_found b.ring ≡ within
  within_before e h =
      let v = (reached_stands n trail low high run).valid in
      let i : verdict_found (bench_after m b).ring ≡ within = ap (λ (c : Bench). verdict_found c.ring) (sym (step_after m b e)) ∙ h in
      (decides b.ring).kept_within
      (valid_ring b.ring room_most (valid_wider b.ring (omega arith) v))
      (λ t l. held t ((decides (bench_after m b).ring).within_kept i t (omega arith)))
