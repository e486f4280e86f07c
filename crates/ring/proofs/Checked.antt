-- What the engine's test `is_ring` comes to: a record of facts, and back. Assumes nothing.
use mathlib.Core.Path.{◌≡◌, sym, ap, ◌∙◌}
use mathlib.Core.Bool.{true, ◌&&◌}
use mathlib.Core.Logic.{⊎_elim}
use Prim.Native.Nat.{ℕ, ◌+◌, ◌≤◌, ◌<◌}
use native.Mathlib.Nat.{mod-lt}
use native.Mathlib.Omega.{arith}
use lib.Dec.{leb, ltb}
use borrow.Author.Tests.{leb-true, le-leb, lt-leb, lt-ltb, le-ltb, ltb-true, ltb-false, eqb-true, not-true}
use Rattle.std.specs.Prelude.{Option, None, Some}
use Rattle.lists.specs.Kept.{kept}
use Rattle.lists.proofs.Kept.{none_is}
use Rattle.limits.specs.Limits.{seats_stand, seats_least, seats_most, slots_most}
use Rattle.lists.proofs.Tests.{both, and-true, and_of, all_at, all_from}
use Rattle.seats.proofs.Sets.{below_full, full_is}
use Rattle.seats.specs.Sets.{full_set}
use Rattle.ring.specs.Ring.{seat_of, owner_of, no_seat, is_past, member_stands, absent_stands, seat_stands, every_seat_stands, is_ring}
use Rattle.ring.specs.declared.Ring.{Ring}
use Rattle.turn.specs.declared.Seat.{Seat}
pub use Rattle.ring.specs.Valid.{Member, Valid}

-- ---- a first fault

past_is : (time : ℕ) (fault : Option ℕ) → is_past time fault ≡ leb (kept fault) time
past_is time None = sym (le-leb 0 time (omega arith))
past_is time (Some t) =
    ⊎_elim (λ e. e ∙ sym (le-leb (t + 1) time (omega (arith, ltb-true t time e)))) (λ e. e ∙ sym (lt-leb (t + 1) time (omega (arith, ltb-false t time e)))) (both (ltb t time))

-- ---- one seat

pub member_of : (n time : ℕ) (s : Seat) → n ≤ seats_most → member_stands n time s ≡ true → Member n time s
member_of n time s h e =
    let a = and-true _ _ e in
    record { inside = below_full s.set n h (leb-true _ _ a.0); past = leb-true _ _ (sym (past_is time s.fault) ∙ a.1) }

pub member_stands_lem : (n time : ℕ) (s : Seat) → n ≤ seats_most → Member n time s → member_stands n time s ≡ true
member_stands_lem n time s h m =
    let f = full_is n h in
    let l = m.inside in
    and_of (le-leb s.set (full_set n) (omega arith)) (past_is time s.fault ∙ le-leb _ _ m.past)

pub absent_of : (s : Seat) → absent_stands s ≡ true → s ≡ no_seat
absent_of s e =
    let a = and-true _ _ e in
    let b = and-true _ _ a.0 in
    let c = and-true _ _ b.0 in
    let i = eqb-true _ _ c.0 in
    let j = not-true _ c.1 in
    let k = not-true _ b.1 in
    let l = none_is s.fault a.1 in
    λ x. record { set = i x; ack = j x; doubt = k x; fault = l x }

pub absent_stands_lem : (s : Seat) → s ≡ no_seat → absent_stands s ≡ true
absent_stands_lem s e = ap absent_stands e

-- ---- the ring

every_at : (r : Ring) (p : ℕ) → every_seat_stands r ≡ true → p < seats_most → seat_stands r.n r.time p (seat_of r p) ≡ true
unfolding every_seat_stands
every_at r p e l = all_at (λ q. seat_stands r.n r.time q (seat_of r q)) seats_most p e l

every_from : (r : Ring) → ((p : ℕ) → p < seats_most → seat_stands r.n r.time p (seat_of r p) ≡ true) → every_seat_stands r ≡ true
unfolding every_seat_stands
every_from r h = all_from (λ q. seat_stands r.n r.time q (seat_of r q)) seats_most h

pub ring_valid : (r : Ring) (room : ℕ) → is_ring r room ≡ true → Valid r room
unfolding is_ring
ring_valid r room e =
    let a = and-true (seats_stand r.n && leb r.time slots_most && leb r.records room) (every_seat_stands r) e in
    let b = and-true (seats_stand r.n && leb r.time slots_most) (leb r.records room) a.0 in
    let c = and-true (seats_stand r.n) (leb r.time slots_most) b.0 in
    let d = and-true (leb seats_least r.n) (leb r.n seats_most) c.0 in
    let most = leb-true r.n seats_most d.1 in
    record {
      least = leb-true _ _ d.0;
      most = most;
      soon = leb-true _ _ c.1;
      fits = leb-true _ _ b.1;
      member = λ p l.
          let s = every_at r p a.1 (omega arith) in
          member_of r.n r.time (seat_of r p) most (rw (lt-ltb p r.n l) at s);
      absent = λ p l m.
          let s = every_at r p a.1 m in
          absent_of (seat_of r p) (rw (le-ltb p r.n l) at s);
    }

pub valid_ring : (r : Ring) (room : ℕ) → Valid r room → is_ring r room ≡ true
unfolding is_ring
valid_ring r room v =
    and_of
    (and_of (and_of (and_of (le-leb _ _ v.least) (le-leb _ _ v.most)) (le-leb _ _ v.soon)) (le-leb _ _ v.fits))
    (every_from r (λ p l.
    ⊎_elim
    (λ t. rw t (member_stands_lem r.n r.time (seat_of r p) v.most (v.member p (ltb-true _ _ t))))
    (λ f. rw f (absent_stands_lem (seat_of r p) (v.absent p (ltb-false _ _ f) l)))
    (both (ltb p r.n))))

-- with more room it is still one
pub valid_wider : (r : Ring) {room wide : ℕ} → room ≤ wide → Valid r room → Valid r wide
valid_wider r h v = record { least = v.least; most = v.most; soon = v.soon; fits = omega (arith, v.fits); member = v.member; absent = v.absent }

-- ---- the owner of the slot

pub owner_below : (r : Ring) (room : ℕ) → Valid r room → owner_of r < r.n
owner_below r room v = let l = v.least in mod-lt r.time (omega arith)

-- n is a number of seats
pub seats_stand_lem : (r : Ring) (room : ℕ) → Valid r room → seats_stand r.n ≡ true
seats_stand_lem r room v = and_of (le-leb _ _ v.least) (le-leb _ _ v.most)
