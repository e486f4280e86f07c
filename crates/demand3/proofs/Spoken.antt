-- A sound owner speaks, and every sound seat hears it. Assumes nothing.
use mathlib.Core.Bool.{Bool, true, false, not, false≢true, true≢false, ◌||◌}
use mathlib.Core.Logic.{⊎_elim}
use mathlib.Core.Path.{◌≡◌, refl, sym, ◌∙◌, ap}
use Prim.Native.Nat.{ℕ, suc, ◌+◌, ◌<◌}
use native.Mathlib.Omega.{arith}
use Rattle.lists.proofs.Tests.{both, same?}
use Rattle.demand3.proofs.Slots.{once}
use Rattle.demand3.proofs.Model.{acts, role, arrived, leaves, hold, Sound, Faulty}
use Rattle.demand3.proofs.Seat.{role_own, role_act, role_blind, Still, still, act_other, act_owner, act_self, differ, back_sound}
use Rattle.demand3.proofs.Seat.{low_leaves, DropsOwner, deaf_drops, false_drops}
use Rattle.demand3.proofs.Invariant.{Holds, Active, Latest, gone, alone, active, Pending, Inv}
use Rattle.demand3.proofs.Moves.{Move, o, later, sees, back_faulty, Hears, hears, role_sound, out_step, alone_step, alone_ack, passed_step}
use Rattle.demand3.proofs.Moves.{carry, pending_step, after_quiet}

module _ (m : Move) where
  open m use {given, last, bit, due, inv}
  open given use {now, send, receive}
  open now use {n, time, set, ack, doubt}
  open later m use {set as set', ack as ack'}

  module _ (so : Sound now (o m)) (es : send ≡ false) (heard : (p : ℕ) → Sound now p → (p ≡ o m → ⊥) → receive p ≡ false) where
    quiet : (p : ℕ) → Sound now p → hold given p ≡ false
    quiet p sp =
        ⊎_elim
        (λ i. let r = role_own given p i (sees m sp sp) in cc (r, es))
        (λ i. let r = role_sound m so sp i in cc (r, es, sees m so so, heard p sp i))
        (same? p (o m))

    holds : (p : ℕ) → Sound (later m) p → Holds (later m) last true due p
    holds p sp = record {
      friends = λ {q} sq. h.same q ∙ sees m was (back_sound given sq);
      others = λ {x} y. h.same x ∙ (inv.holds was).others (back_faulty m quiet y);
      says = h.acks;
      sure = λ k. h.sure (waits k);
    }
      where
        was : Sound now p
        was = back_sound given sp

        h : Hears m p
        h = hears m so es was (heard p was)

        waits : (due || false) ≡ true → bit ≡ true
        waits k = ⊎_elim (λ e. (inv.pend e).heard) (λ e. absurd (false≢true (cc (k, e)))) (both due)

    pending : due ≡ true → Pending (later m) last true
    pending e = pending_step m quiet (inv.pend e) (differ (inv.pend e).late so)

    -- the latest faulty seat
    module _ (x f : ℕ) (fx : Faulty now x f) (el : last ≡ suc f) where
      nx : x ≡ o m → ⊥
      nx = differ fx so

      abbrev Next : Type 0
      Next = Latest (later m) f true due x

      module _ (y : Active now f bit due x) (h : time < f + n) where
        -- the owner was not, or is no longer, in its set
        stay : due ≡ false → ((u : ℕ) → (u ≡ o m → ⊥) → set' x u ≡ set x u) → set' x (o m) ≡ false → ack' x ≡ false → Next
        stay ep same unseen down = carry m quiet y (omega (arith, inv.since)) (record {
          before = λ e. absurd (false≢true (sym ep ∙ e));
          same = same;
          inside = same x nx ∙ y.inside;
          unseen = λ e. absurd (false≢true (sym unseen ∙ e));
          opposite = down;
          full = λ k. absurd (false≢true (cc (k, ep)));
          past = λ k t lo hi e. y.past k t (omega arith) hi e;
        })

        -- while it is due, or the bit false, this owner is in its set
        awaited : (due || not bit) ≡ true → set x (o m) ≡ true
        awaited k = y.full k so (λ i. once n f time (omega (arith, inv.since)) h i)

        leave : set x (o m) ≡ true → leaves given x ≡ true → Next
        leave e k = gone (act_self given x (role_act given x nx y.inside e) k)

        drop : set x (o m) ≡ true → due ≡ false → DropsOwner given x → Next
        drop e ep d =
            let r : role given x ≡ acts = role_act given x nx y.inside e in
            stay ep (act_other given x r d.stays) (act_owner given x r d.drop (o m) refl) (cc (r, d.low))

        says : ack (o m) ≡ bit
        says = (inv.holds so).says

        -- is the owner in its set, due, the bit, its doubt, does the owner's bit arrive
        cases : (i p c d r : Bool) → set x (o m) ≡ i → due ≡ p → bit ≡ c → doubt x ≡ d → arrived given x ≡ r → Next
        cases false true c d r ei ep ec ed er = absurd (false≢true (sym ei ∙ awaited (cc)))
        cases false false false d r ei ep ec ed er = absurd (false≢true (sym ei ∙ awaited (cc)))
        cases false false true d r ei ep ec ed er =
            let z : Still given x = still given x (role_blind given x nx ei) in
            stay ep (λ u ne. z.set u) (z.set (o m) ∙ ei) (z.ack ∙ y.opposite ∙ ap not ec)
        cases true p true d r ei ep ec ed er = leave ei (low_leaves given x (says ∙ ec) (y.opposite ∙ ap not ec))
        cases true true false d r ei ep ec ed er = absurd (false≢true (sym ec ∙ (inv.pend ep).heard))
        cases true false false true true ei ep ec ed er = leave ei (cc (says, y.opposite))
        cases true false false true false ei ep ec ed er = drop ei ep (deaf_drops given x er (y.opposite ∙ ap not ec))
        cases true false false false r ei ep ec ed er = drop ei ep (false_drops given x (says ∙ ec) (y.opposite ∙ ap not ec) ed)

      latest : Latest now f bit due x → Next
      latest (gone e) = gone (out_step m x e)
      latest (alone only down) = alone (alone_step m x only) (λ e. alone_ack m x only nx ∙ down e)
      latest (active y h) = cases y h (set x (o m)) due bit (doubt x) (arrived given x) refl refl refl refl refl

    pub spoken : Inv (later m) last true due
    spoken =
        after_quiet m quiet
        (record { holds = holds; pend = pending; low = λ h. absurd (true≢false h) })
        latest
        (λ x f y e h. passed_step m (inv.over h y e))
