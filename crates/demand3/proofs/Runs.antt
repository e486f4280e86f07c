-- The runs of specs/Runs.antt come out as stated, by computation over the engine's own definitions. Assumes
-- nothing.
use mathlib.Core.Bool.{true}
use mathlib.Core.Path.{◌≡◌, refl, sym, ap, ◌∙◌}
use Prim.Native.Nat.{ℕ, ◌+◌, ◌-◌, ◌≤◌, ◌<◌}
use native.Mathlib.Omega.{arith}
use lib.Dec.{ltb}
use lib.ListN.{get_or}
use borrow.Author.Tests.{ltb-true}
use Rattle.std.specs.Prelude.{Some}
use Rattle.limits.specs.Limits.{seats_least, seats_most}
use Rattle.lists.proofs.Counted.{get_or-tab}
use Rattle.seats.specs.Sets.{has_seat}
use Rattle.turn.specs.Turn.{sound}
use Rattle.ring.specs.Ring.{seat_of, no_seat, zero_ring, fresh_ring, every_seat_stands, is_ring}
use Rattle.turn.specs.Turn.{turn_of}
use Rattle.terms.specs.Terms.{terms_hold, first_failing}
use Rattle.ring.specs.Refusals.{step_told, verdict_found, within}
use Rattle.ring.specs.Promise.{ring_of, trail_of}
use Rattle.steps.specs.Run.{run_on}
use Rattle.turn.specs.declared.Seat.{Seat}
use Rattle.demand3.specs.Faults.{SoundSeat, FirstFault, Apart}
use Rattle.demand3.specs.Demand.{RunWithin}
use Rattle.demand3.specs.Runs.{Run, five_apart, four_apart, three_apart, alone, before_own, after_own, before_out, after_out}
use Rattle.demand3.specs.Runs.{seats_in, steps_of, trail_of_run, last_ring, Finish, finish_of, stated}
use Rattle.demand3.proofs.Tested.{all_apart}

pub as_stated : (x : Run) → finish_of x ≡ stated x
unfolding finish_of run_on ring_of trail_of step_told verdict_found first_failing terms_hold turn_of is_ring every_seat_stands fresh_ring zero_ring
as_stated five_apart = refl
as_stated four_apart = refl
as_stated three_apart = refl
as_stated alone = refl
as_stated before_own = refl
as_stated after_own = refl
as_stated before_out = refl
as_stated after_out = refl

-- ---- what that says of a run's last ring

module _ (x : Run) where
  pub is_n : (last_ring x).n ≡ (stated x).n
  unfolding finish_of
  is_n = ap (λ (f : Finish). f.n) (as_stated x)

  pub is_time : (last_ring x).time ≡ (stated x).time
  unfolding finish_of
  is_time = ap (λ (f : Finish). f.time) (as_stated x)

  pub is_found : verdict_found (last_ring x) ≡ (stated x).verdict
  unfolding finish_of
  is_found = ap (λ (f : Finish). f.verdict) (as_stated x)

  pub is_seat : (p : ℕ) → ltb p (stated x).n ≡ true → seat_of (last_ring x) p ≡ get_or (stated x).seats p no_seat
  unfolding finish_of
  is_seat p l =
      let h = ltb-true p (stated x).n l in
      sym (get_or-tab (last_ring x).n (seat_of (last_ring x)) no_seat p (omega (arith, is_n)))
      ∙ ap (λ (f : Finish). get_or f.seats p no_seat) (as_stated x)

  pub is_sound : (p : ℕ) → ltb p (stated x).n ≡ true → sound (get_or (stated x).seats p no_seat) ≡ true → SoundSeat (last_ring x) p
  is_sound p l e = record { seat = let h = ltb-true p (stated x).n l in omega (arith, is_n); never = ap sound (is_seat p l) ∙ e }

  pub is_fault : (p t : ℕ) → ltb p (stated x).n ≡ true → (get_or (stated x).seats p no_seat).fault ≡ Some t → FirstFault (last_ring x) p t
  is_fault p t l e = record { seat = let h = ltb-true p (stated x).n l in omega (arith, is_n); since = ap (λ (s : Seat). s.fault) (is_seat p l) ∙ e }

  pub is_in : (p q : ℕ) → ltb p (stated x).n ≡ true → has_seat (seat_of (last_ring x) p).set q ≡ has_seat (get_or (stated x).seats p no_seat).set q
  is_in p q l = ap (λ (s : Seat). has_seat s.set q) (is_seat p l)

  -- the first faults are n slots apart
  pub is_apart : 0 < (stated x).n → (stated x).n_apart ≡ true → Apart (last_ring x).n (last_ring x) (last_ring x).time
  unfolding finish_of
  is_apart pos e =
      let h : (last_ring x).n - 1 + 1 ≡ (last_ring x).n = omega (arith, is_n) in
      rw h at (all_apart (last_ring x) (last_ring x).time ((last_ring x).n - 1) (ap (λ (f : Finish). f.n_apart) (as_stated x) ∙ e))

  pub is_within : seats_least ≤ seats_in x → seats_in x ≤ seats_most → (stated x).verdict ≡ within → RunWithin (seats_in x) trail_of_run (steps_of x)
  is_within low high e = record { least = low; most = high; terms = is_found ∙ e }
