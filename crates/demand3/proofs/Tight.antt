-- The fault terms are tight in their distance, agreement needs the distance alone, and a faulty seat may stay
-- in its own set alone. Assumes nothing.
use mathlib.Core.Bool.{not, false≢true}
use mathlib.Core.Path.{◌≡◌, refl, sym, ap, ◌∙◌}
use Prim.Native.Nat.{ℕ, zero, suc}
use native.Mathlib.Omega.{arith}
use Rattle.lists.specs.Kept.{kept}
use Rattle.lists.proofs.Kept.{kept_none}
use Rattle.turn.specs.Turn.{sound}
use Rattle.ring.specs.declared.Ring.{Ring}
use Rattle.turn.specs.declared.Seat.{Seat}
use Rattle.steps.specs.Run.{start}
use Rattle.steps.proofs.Reached.{run_reached}
use Rattle.demand3.specs.Faults.{SoundSeat, SoundAfter}
use Rattle.demand3.specs.Demand.{Agreement}
use Rattle.demand3.specs.Runs.{four_apart, three_apart, alone, last_ring}
use Rattle.demand3.specs.Tight.{Tight, ApartIsEnough, AloneStays}
use Rattle.demand3.proofs.Tested.{closer}
use Rattle.demand3.proofs.Demand.{agreement_of}
use Rattle.demand3.proofs.Runs.{is_n, is_time, is_seat, is_sound, is_fault, is_in, is_apart, is_within}

-- a sound seat has no first fault
never_faulty : (r : Ring) (p t : ℕ) → SoundSeat r p → SoundAfter r t p
never_faulty r p t s = record { seat = s.seat; later = λ {f} y. absurd (omega (arith, kept_none _ s.never, ap kept y.since)) }

module _ where
  abbrev r : Ring
  r = last_ring four_apart

  one : SoundSeat r 1
  one = is_sound four_apart 1 refl refl

  two : SoundSeat r 2
  two = is_sound four_apart 2 refl refl

  -- the two hold the sets of one seat each: the other
  apart_sets : Agreement r → ⊥
  apart_sets a =
      let e : ◌≡◌ {A = ℕ} 4 2 =
      sym (ap (λ (s : Seat). s.set) (is_seat four_apart 1 refl)) ∙ a.same_set one two ∙ ap (λ (s : Seat). s.set) (is_seat four_apart 2 refl) in
      omega arith

pub tight : Tight
tight = record {
  two_left = record { apart = closer (is_apart four_apart (omega arith) refl) (omega arith); broken = apart_sets };
  two_sound = record {
    one = 1;
    other = 2;
    differ = omega arith;
    one_sound = never_faulty r 1 _ one;
    other_sound = never_faulty r 2 _ two;
  };
  one_left = record { apart = closer (is_apart three_apart (omega arith) refl) (omega arith); broken = out_of_its_own };
  one_sound = last;
  no_other = no_other;
}
  where
    last : SoundSeat (last_ring three_apart) 1
    last = is_sound three_apart 1 refl refl

    -- the sound seat is not in its own set
    out_of_its_own : Agreement (last_ring three_apart) → ⊥
    out_of_its_own a = false≢true (sym (is_in three_apart 1 1 refl) ∙ a.sound_in last last)

    no_other : (p : ℕ) → SoundSeat (last_ring three_apart) p → p ≡ 1
    no_other zero s = absurd (false≢true (sym (ap sound (is_seat three_apart 0 refl)) ∙ s.never))
    no_other (suc zero) s = refl
    no_other (suc (suc zero)) s = absurd (false≢true (sym (ap sound (is_seat three_apart 2 refl)) ∙ s.never))
    no_other (suc (suc (suc p))) s = absurd (omega (arith, s.seat, is_n three_apart))

pub apart_is_enough : ApartIsEnough
apart_is_enough n trail steps low high w = agreement_of n trail low high (run_reached steps start) w

pub alone_stays : AloneStays
alone_stays = record {
  within = is_within alone (omega arith) (omega arith) refl;
  fault = is_fault alone 1 0 refl refl;
  over = omega (arith, is_n alone, is_time alone);
  stays = ap not (is_in alone 1 1 refl);
}
