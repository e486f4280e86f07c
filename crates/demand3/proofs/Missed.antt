-- A first fault by receiving: the sound seat c misses the sound owner, and drops it; the others hear, and
-- keep c until its slot. Assumes nothing.
use mathlib.Core.Bool.{true, false, false≢true, true≢false}
use mathlib.Core.Logic.{⊎_elim}
use mathlib.Core.Path.{◌≡◌, refl, sym, ◌∙◌, ap}
use Prim.Native.Nat.{ℕ, suc, ◌%◌}
use native.Mathlib.Omega.{arith}
use lib.Dec.{eqb}
use borrow.Author.Tests.{eq-eqb, ne_eqb}
use Rattle.lists.proofs.Tests.{both, same?}
use Rattle.demand3.proofs.Model.{acts, role, hold, Sound, Faulty}
use Rattle.demand3.proofs.Seat.{role_act, act_other, act_owner, differ, one_first, back_sound, DropsOwner, deaf_drops}
use Rattle.demand3.proofs.Invariant.{Holds, Active, active, Pending, Inv}
use Rattle.demand3.proofs.Moves.{Move, o, later, sees, Hears, hears, role_sound}
use Rattle.demand3.proofs.Moves.{starts, calm, up, unmarked, still_sound, was_faulty, first_kin, after_first}

module _ (m : Move) where
  open m use {given, inv}
  open given use {now, send, receive}
  open now use {n, time, set}
  open later m use {set as set'}

  module _ (so : Sound now (o m)) (es : send ≡ false) (c : ℕ) (sc : Sound now c) (nc : c ≡ o m → ⊥) (mc : receive c ≡ true) where
    rc : role given c ≡ acts
    rc = role_act given c nc (sees m sc sc) (sees m sc so)

    yc : hold given c ≡ true
    yc = cc (rc, es, sees m so so, mc)

    new : Faulty (later m) c time
    new = starts m c sc yc

    holds : (p : ℕ) → Sound (later m) p → Holds (later m) (suc time) true true p
    holds p sp = record {
      friends = λ {q} sq. h.same q ∙ sees m was (back_sound given sq);
      others = λ {x} y. ⊎_elim (other y) (older y) (same? x c);
      says = h.acks;
      sure = λ k. h.sure (up m c sc yc);
    }
      where
        was : Sound now p
        was = back_sound given sp

        heard : (p ≡ o m → ⊥) → receive p ≡ false
        heard i =
            let free : hold given p ≡ false = unmarked m c sc yc was (λ k. differ new sp (sym k)) in
            ⊎_elim (λ y. absurd (true≢false (cc (free, role_sound m so was i, es, sees m so so, y)))) (λ y. y) (both (receive p))

        h : Hears m p
        h = hears m so es was heard

        -- c itself stays in the set
        other : {x f : ℕ} → Faulty (later m) x f → x ≡ c → set' p x ≡ eqb (suc f) (suc time)
        other {x} {f} y i =
            h.same x ∙ ap (set p) i ∙ sees m was sc ∙ sym (eq-eqb (suc f) (suc time) (ap suc (one_first y new i)))

        older : {x f : ℕ} → Faulty (later m) x f → (x ≡ c → ⊥) → set' p x ≡ eqb (suc f) (suc time)
        older {x} {f} y i =
            let z : Faulty now x f = was_faulty m c sc yc y i in
            h.same x ∙ (inv.holds was).others z ∙ cc (calm m c sc yc, ne_eqb (suc f) (suc time) (λ k. omega (arith, inv.since, inv.most z)))

    w : DropsOwner given c
    w = deaf_drops given c (cc (es, sees m so so, mc)) ((inv.holds sc).says ∙ up m c sc yc)

    unseen : (u : ℕ) → set' c u ≡ true → u ≡ o m → ⊥
    unseen u e i = false≢true (sym (act_owner given c rc w.drop u i) ∙ e)

    act : Active (later m) time true true c
    act = record {
      inside = act_other given c rc w.stays c nc ∙ sees m sc sc;
      kin = λ u hu e ne. first_kin m c sc yc u hu (sym (act_other given c rc w.stays u (unseen u e)) ∙ e) ne (unseen u e);
      opposite = cc (rc, w.low);
      full = λ h {u} su ne. act_other given c rc w.stays u ne ∙ sees m sc (back_sound given su);
      past = λ h. absurd (true≢false h);
    }

    pending : Pending (later m) (suc time) true
    pending = record {
      f = time;
      x = c;
      is = refl;
      late = new;
      heard = refl;
      missed = still_sound m c sc yc so (λ i. nc (sym i));
      ahead = λ k lo hi i. nc (sym i ∙ ap (λ (j : ℕ). j % n) (omega arith));
    }

    pub missed : Inv (later m) (suc time) true true
    missed =
        after_first m c sc yc
        (record { holds = holds; pend = λ h. pending; low = λ h. absurd (true≢false h) })
        (active act (omega (arith, inv.size)))
        (λ h. absurd (true≢false h))
