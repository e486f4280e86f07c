-- Agreement of the ring, read off the state that the ring is read as. Assumes nothing.
use mathlib.Core.Bool.{true, false, not}
use mathlib.Core.Logic.{◌⊎◌, inl, inr}
use mathlib.Core.Path.{◌≡◌, sym, ap, ◌∙◌}
use Prim.Native.Nat.{ℕ, ◌^◌, ◌<◌}
use native.Mathlib.Omega.{arith}
use lib.Dec.{eqb}
use lib.Pow.{pow-lt}
use Rattle.std.specs.Prelude.{is_none}
use Rattle.lists.proofs.Kept.{none_is}
use Rattle.seats.specs.Sets.{has_seat}
use Rattle.seats.proofs.Sets.{same_sets, has_one}
use Rattle.turn.specs.Turn.{out}
use Rattle.ring.specs.Ring.{seat_of}
use Rattle.ring.specs.declared.Ring.{Ring}
use Rattle.ring.specs.Valid.{Valid}
use Rattle.demand3.specs.Faults.{SoundSeat, FirstFault}
use Rattle.demand3.specs.Demand.{Agreement}
use Rattle.demand3.proofs.Model.{Sound, Faulty, Agrees}
use Rattle.demand3.proofs.View.{state_of}

-- ---- sound and faulty seats, of the ring and of the state

module _ (r : Ring) where
  pub to_sound : {p : ℕ} → SoundSeat r p → Sound (state_of r) p
  to_sound s = record { seat = s.seat; clean = none_is _ s.never }

  pub from_sound : {p : ℕ} → Sound (state_of r) p → SoundSeat r p
  from_sound s = record { seat = s.seat; never = ap is_none s.clean }

  pub to_faulty : {x t : ℕ} → FirstFault r x t → Faulty (state_of r) x t
  to_faulty {x} {t} y = record { seat = y.seat; since = y.since }

  pub from_faulty : {x t : ℕ} → Faulty (state_of r) x t → FirstFault r x t
  from_faulty {x} {t} y = record { seat = y.seat; since = y.since }

  -- ---- agreement, read off the state

  module _ (room : ℕ) (v : Valid r room) (a : Agrees (state_of r)) where
    inside : {p : ℕ} → p < r.n → (seat_of r p).set < 2 ^ r.n
    inside {p} h = (v.member p h).inside

    pub agreement : Agreement r
    agreement = record {
      same_set = λ {p} {q} sp sq.
          same_sets r.n (seat_of r p).set (seat_of r q).set (inside sp.seat) (inside sq.seat)
          (a.one_set (to_sound sp) (to_sound sq));
      same_ack = λ sp sq. a.one_ack (to_sound sp) (to_sound sq);
      sound_in = λ sp sq. a.sound_in (to_sound sp) (to_sound sq);
      one_faulty = λ sp fx fy. a.one_faulty (to_sound sp) (to_faulty fx) (to_faulty fy);
      only_seats = λ sp. inside sp.seat;
      left_by = λ sp fx k low high own. a.removed_by (to_sound sp) (to_faulty fx) k low (omega arith) own;
      stays_till = λ sp fx ahead. a.kept_till (to_sound sp) (to_faulty fx) (λ k low high own. ahead k low (omega arith) own);
      gone_by = λ {x} fx h. gone x fx.seat (a.ended_by (to_faulty fx) (omega arith));
    }
      where
        gone : (x : ℕ) → x < r.n → (has_seat (seat_of r x).set x ≡ false) ⊎ ((q : ℕ) → q < r.n → has_seat (seat_of r x).set q ≡ eqb q x)
            → (out x (seat_of r x) ≡ true) ⊎ ((seat_of r x).set ≡ 2 ^ x)
        gone x h (inl e) = inl (ap not e)
        gone x h (inr e) =
            inr
            (same_sets r.n (seat_of r x).set (2 ^ x) (inside h) (pow-lt h)
            (λ q l. e q l ∙ sym (has_one x q)))
