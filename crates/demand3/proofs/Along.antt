-- Every ring that a run comes to is read as a state of which the model's invariant holds, if the fault terms
-- hold of it. Assumes nothing.
use mathlib.Core.List.{List}
use mathlib.Core.Path.{◌≡◌, sym, ap, ◌∙◌, subst}
use Prim.Native.Nat.{ℕ, ◌≤◌, ◌<◌}
use Rattle.limits.specs.Limits.{seats_least, seats_most}
use Rattle.seats.specs.Sets.{has_seat}
use Rattle.seats.proofs.Sets.{full_has}
use Rattle.ring.specs.Ring.{seat_of, fresh_seat, fresh_ring}
use Rattle.ring.specs.declared.Ring.{Ring}
use Rattle.turn.specs.declared.Seat.{Seat}
use Rattle.steps.specs.Run.{Marks, Bench, Reached}
use Rattle.steps.proofs.Reached.{fresh_n, fresh_seat_lem, fresh_beyond, bench_after, reached_elim}
use Rattle.demand3.proofs.Model.{Marked, Fresh, Terms, step}
use Rattle.demand3.proofs.Seat.{back_terms}
use Rattle.demand3.proofs.Kept.{Kept, fresh_kept, step_kept}
use Rattle.demand3.proofs.View.{state_of, marked_of, EmptyBeyond, empty_after, state_after}

-- ---- a fresh ring

fresh_empty : (n : ℕ) → EmptyBeyond (fresh_ring n)
fresh_empty n p h = ap (λ (s : Seat). s.set) (fresh_beyond n p (rw (fresh_n n) at h))

module _ (n : ℕ) (low : seats_least ≤ n) (high : n ≤ seats_most) where
  seat_is : (p : ℕ) → p < (fresh_ring n).n → seat_of (fresh_ring n) p ≡ fresh_seat n
  seat_is p h = fresh_seat_lem n p (rw (fresh_n n) at h)

  fresh_state : Fresh (state_of (fresh_ring n))
  fresh_state = record {
    size = rw (fresh_n n) low;
    full = λ {p} {q} hp hq. ap (λ (s : Seat). has_seat s.set q) (seat_is p hp) ∙ full_has n q high (rw (fresh_n n) at hq);
    says = λ {p} h. ap (λ (s : Seat). s.ack) (seat_is p h);
    sure = λ {p} h. ap (λ (s : Seat). s.doubt) (seat_is p h);
    clean = λ {p} h. ap (λ (s : Seat). s.fault) (seat_is p h);
  }

-- ---- a run

-- the model's invariant, where the fault terms hold of the ring itself: that they held before is no assumption
pub record Follows (b : Bench) : Type 0 where
  pub empty : EmptyBeyond b.ring
  pub kept : Terms (state_of b.ring) → Kept (state_of b.ring)

follows_step : (m : Marks) (b : Bench) → Follows b → Follows (bench_after m b)
follows_step m b w = record { empty = empty_after r m.send m.receive w.empty; kept = λ t. subst Kept (sym is) (next (subst Terms is t)) }
  where
    r : Ring
    r = b.ring

    given : Marked
    given = marked_of r m.send m.receive

    is : state_of (bench_after m b).ring ≡ step given
    is = state_after r m.send m.receive w.empty

    next : Terms (step given) → Kept (step given)
    next t = step_kept given (w.kept (back_terms given t)) t

module _ (n : ℕ) (trail : List ℕ) (low : seats_least ≤ n) (high : n ≤ seats_most) where
  pub along : {b : Bench} → Reached n trail b → Follows b
  along =
      reached_elim n trail low high Follows
      (record { empty = fresh_empty n; kept = λ t. fresh_kept (state_of (fresh_ring n)) (fresh_state n low high) })
      (λ m b s e. follows_step m b)
