-- The marks gathered on the way are those that document 01 gives the slot, since the marks of a good sheet
-- ascend by time. Assumes nothing.
use mathlib.Core.Path.{◌≡◌, sym, ap, ap₂, ◌∙◌}
use mathlib.Core.Bool.{Bool, true, false, not, ◌&&◌, and_comm, ◌||◌}
use mathlib.Core.Logic.{◌⊎◌, inl, inr, ⊎_elim}
use Prim.Native.Nat.{ℕ, suc, ◌+◌, ◌≤◌, ◌<◌}
use native.Mathlib.Nat.{le_refl}
use native.Mathlib.Omega.{arith}
use lib.Dec.{leb, ltb, eqb}
use lib.Bits.{bit_or, or_lt}
use lib.Pow.{pow_pos}
use borrow.Author.Tests.{ltb-true, eqb-true, eqb-false, eq-eqb, ne_eqb, le-leb, lt-leb}
use Rattle.lists.specs.Counted.{any_below}
use Rattle.lists.proofs.Counted.{rising}
use Rattle.lists.proofs.Tests.{both, and-true, eqb_sym}
use Rattle.lists.proofs.Any.{any_more, any_same, any_none, any_up_to, any_or}
use Rattle.seats.specs.Sets.{has_seat}
use Rattle.seats.specs.Joined.{added, seats_with}
use Rattle.seats.proofs.Sets.{nobody_in, same_sets, without_le, without_has}
use Rattle.seats.proofs.Joined.{has_or, has_added, added_below, with_below, has_with}
use Rattle.sheet_lines.specs.Bytes.{send, receive, dark}
use Rattle.sheet.specs.Marks.{above}
use Rattle.sheet.specs.Good.{mark_of, GoodSheet}
use Rattle.sheet.specs.declared.Mark.{Mark}
use Rattle.sheet.specs.declared.Sheet.{Sheet}
use Rattle.run.specs.Marks.{says, darkens, owner_at, receive_mark, marks_at}
use Rattle.run.specs.Inside.{none_gathered, with_mark, slot_over, given_by, Gathers, NoneLeft}
use Rattle.run.specs.declared.marks.Gathered.{Gathered}

-- ---- the marks ascend

above_later : (last m : Mark) → above last m ≡ true → last.time ≤ m.time
above_later last m e =
    ⊎_elim
    (λ p. let l = ltb-true last.time m.time p in omega arith)
    (λ p. let q = and-true (eqb last.time m.time) (ltb last.seat m.seat) (rw p at e) in let l = eqb-true last.time m.time q.0 in omega arith)
    (both (ltb last.time m.time))

module _ (sheet : Sheet) (good : GoodSheet sheet) where
  later_mark : (i j : ℕ) → i ≤ j → j < sheet.mark_count → (mark_of sheet i).time ≤ (mark_of sheet j).time
  later_mark =
      rising (λ i. (mark_of sheet i).time) sheet.mark_count (λ i l. above_later (mark_of sheet i) (mark_of sheet (suc i)) (good.ascending i l))

-- ---- what is gathered

pub none_yet : (sheet : Sheet) → Gathers sheet 0 none_gathered
none_yet sheet =
    let z = pow_pos sheet.n in
    record {
      few = omega arith;
      past = λ i l. absurd (omega arith);
      left = λ i l h. omega arith;
      sends = nobody_in;
      receives = nobody_in;
      darks = nobody_in;
      receive_inside = z;
      dark_inside = z;
    }

-- a mark adds its seat to the set of its kind
adds : (set next seat : ℕ) (marked : Bool) (p : ℕ) (test : ℕ → Bool) → has_seat set p ≡ any_below next test → test next ≡ (marked && eqb seat p)
    → has_seat (added set seat marked) p ≡ any_below (next + 1) test
adds set next seat marked p test h e =
    has_added set seat marked p ∙ ap₂ (λ (a b : Bool). a || b) h (ap (λ (b : Bool). marked && b) (eqb_sym p seat) ∙ sym e) ∙ sym (any_more test next)

module _ (sheet : Sheet) (good : GoodSheet sheet) (t : ℕ) (g : Gathered) (so : Gathers sheet t g) where
  pub mark_more : g.next < sheet.mark_count → (mark_of sheet g.next).time ≡ t → Gathers sheet t (with_mark g (mark_of sheet g.next))
  mark_more l e =
      let m = mark_of sheet g.next in
      let now : eqb m.time t ≡ true = eq-eqb m.time t e in
      let by : leb m.time t ≡ true = le-leb m.time t (omega arith) in
      let seat = good.marked_seats g.next l in
      record {
        few = omega arith;
        past = λ i h. let x = later_mark sheet good i g.next (omega arith) l in omega arith;
        left = λ i a b. so.left i (omega arith) b;
        sends = λ p. adds g.send g.next m.seat (eqb m.kind send) p (λ i. says send t p (mark_of sheet i)) (so.sends p) (rw now);
        receives = λ p. adds g.receive g.next m.seat (eqb m.kind receive) p (λ i. says receive t p (mark_of sheet i)) (so.receives p) (rw now);
        darks = λ p. adds g.dark g.next m.seat (eqb m.kind dark) p (λ i. darkens t p (mark_of sheet i)) (so.darks p) (rw by);
        receive_inside = added_below sheet.n g.receive m.seat (eqb m.kind receive) so.receive_inside seat;
        dark_inside = added_below sheet.n g.dark m.seat (eqb m.kind dark) so.dark_inside seat;
      }

  -- the next mark is at another time, or there is none
  pub all_gathered : (sheet.mark_count ≤ g.next) ⊎ ((mark_of sheet g.next).time ≡ t → ⊥) → NoneLeft sheet t g
  all_gathered (inl a) i l h = absurd (omega arith)
  all_gathered (inr n) i l h =
      let a = so.left g.next (le_refl g.next) (omega arith) in
      let b = later_mark sheet good g.next i l h in
      ⊎_elim (λ e. absurd (n (eqb-true _ _ e))) (λ e. let x = eqb-false (mark_of sheet g.next).time t e in omega arith) (both (eqb (mark_of sheet g.next).time t))

  module _ (whole : NoneLeft sheet t g) where
    -- a kind said at t is not said at t + 1
    not_yet : (kind p i : ℕ) → i < g.next → says kind (t + 1) p (mark_of sheet i) ≡ false
    not_yet kind p i l = let h = so.past i l in rw (ne_eqb (mark_of sheet i).time (t + 1) (omega arith))

    -- darkness stays
    still_dark : (p i : ℕ) → i < g.next → darkens t p (mark_of sheet i) ≡ darkens (t + 1) p (mark_of sheet i)
    still_dark p i l =
        let h = so.past i l in
        rw (le-leb (mark_of sheet i).time t h, le-leb (mark_of sheet i).time (t + 1) (omega arith))

    pub next_slot : Gathers sheet (t + 1) (slot_over g)
    next_slot = record {
      few = so.few;
      past = λ i l. let h = so.past i l in omega arith;
      left = λ i l h. let x = whole i l h in omega arith;
      sends = λ p. nobody_in p ∙ sym (any_none (λ i. says send (t + 1) p (mark_of sheet i)) g.next (not_yet send p));
      receives = λ p. nobody_in p ∙ sym (any_none (λ i. says receive (t + 1) p (mark_of sheet i)) g.next (not_yet receive p));
      darks = λ p. so.darks p ∙ any_same (λ i. darkens t p (mark_of sheet i)) (λ i. darkens (t + 1) p (mark_of sheet i)) g.next (still_dark p);
      receive_inside = pow_pos sheet.n;
      dark_inside = so.dark_inside;
    }

    -- the marks past the place say nothing of this slot
    not_after : (kind p i : ℕ) → g.next ≤ i → i < sheet.mark_count → (says kind t p (mark_of sheet i) || darkens t p (mark_of sheet i)) ≡ false
    not_after kind p i l h =
        let x = whole i l h in
        rw (ne_eqb (mark_of sheet i).time t (omega arith), lt-leb (mark_of sheet i).time t x)

    -- so the sets have whoever has such a mark
    has_mark : (set kind p : ℕ) → has_seat set p ≡ any_below g.next (λ i. says kind t p (mark_of sheet i))
        → has_seat (bit_or set g.dark) p ≡ any_below sheet.mark_count (λ i. says kind t p (mark_of sheet i) || darkens t p (mark_of sheet i))
    has_mark set kind p e =
        has_or set g.dark p
        ∙ ap₂ (λ (a b : Bool). a || b) e (so.darks p)
        ∙ sym (any_or (λ i. says kind t p (mark_of sheet i)) (λ i. darkens t p (mark_of sheet i)) g.next)
        ∙ sym (any_up_to (λ i. says kind t p (mark_of sheet i) || darkens t p (mark_of sheet i)) g.next sheet.mark_count so.few (not_after kind p))

    pub send_given : (given_by g (owner_at sheet t)).send ≡ (marks_at sheet t).send
    unfolding marks_at
    send_given = has_mark g.send send (owner_at sheet t) (so.sends (owner_at sheet t))

    has_receive : (p : ℕ) → has_seat (given_by g (owner_at sheet t)).receive p ≡ receive_mark sheet t p
    has_receive p =
        let b = owner_at sheet t in
        let s = bit_or g.receive g.dark in
        without_has s b p ∙ and_comm (has_seat s p) (not (eqb p b))
        ∙ ap (λ (x : Bool). not (eqb p b) && x) (has_mark g.receive receive p (so.receives p))

    pub receive_given : (given_by g (owner_at sheet t)).receive ≡ (marks_at sheet t).receive
    unfolding marks_at
    receive_given =
        let s = bit_or g.receive g.dark in
        same_sets sheet.n (given_by g (owner_at sheet t)).receive (seats_with sheet.n (receive_mark sheet t))
        (let a = or_lt sheet.n g.receive g.dark so.receive_inside so.dark_inside in let b = without_le s (owner_at sheet t) in omega arith)
        (with_below (receive_mark sheet t) sheet.n)
        (λ p l. has_receive p ∙ sym (has_with (receive_mark sheet t) sheet.n p l))
