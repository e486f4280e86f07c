-- A first fault by sending: the sound owner is silent, and the sound seats drop it at once. Assumes nothing.
use mathlib.Core.Bool.{true, false, false≢true}
use mathlib.Core.Logic.{◌⊎◌, inl, inr, ⊎_elim}
use mathlib.Core.Path.{◌≡◌, refl, sym, ◌∙◌}
use Prim.Native.Nat.{ℕ, suc}
use native.Mathlib.Omega.{arith}
use Rattle.lists.proofs.Tests.{same?}
use Rattle.demand3.proofs.Slots.{OwnSlot, own_slot, once}
use Rattle.demand3.proofs.Model.{owns, acts, role, hold, Sound, Faulty}
use Rattle.demand3.proofs.Seat.{SomeSound, some, none, some_sound, role_own, role_act, own_set, act_other, act_owner, differ, back_sound, DropsOwner, deaf_drops}
use Rattle.demand3.proofs.Invariant.{Holds, Active, active, Low, NoneSound, Inv}
use Rattle.demand3.proofs.Moves.{Move, o, later, sees, starts, calm, up, was_faulty, first_kin, after_first}

module _ (m : Move) where
  open m use {given, inv}
  open given use {now, send}
  open now use {n, time, set}
  open later m use {set as set'}

  module _ (so : Sound now (o m)) (es : send ≡ true) where
    own : role given (o m) ≡ owns
    own = role_own given (o m) refl (sees m so so)

    yo : hold given (o m) ≡ true
    yo = cc (own, es)

    new : Faulty (later m) (o m) time
    new = starts m (o m) so yo

    holds : (p : ℕ) → Sound (later m) p → Holds (later m) (suc time) false false p
    holds p sp = record { friends = friends; others = others; says = cc (r, w.low); sure = λ h. cc r }
      where
        ne : p ≡ o m → ⊥
        ne i = differ new sp (sym i)

        was : Sound now p
        was = back_sound given sp

        r : role given p ≡ acts
        r = role_act given p ne (sees m was was) (sees m was so)

        w : DropsOwner given p
        w = deaf_drops given p (cc (es, sees m so so)) ((inv.holds was).says ∙ up m (o m) so yo)

        friends : {q : ℕ} → Sound (later m) q → set' p q ≡ true
        friends {q} sq = act_other given p r w.stays q (λ i. differ new sq (sym i)) ∙ sees m was (back_sound given sq)

        others : {x f : ℕ} → Faulty (later m) x f → set' p x ≡ false
        others {x} y =
            ⊎_elim
            (λ i. act_owner given p r w.drop x i)
            (λ i. act_other given p r w.stays x i ∙ (inv.holds was).others (was_faulty m (o m) so yo y i) ∙ cc (calm m (o m) so yo))
            (same? x (o m))

    -- the owner itself does not know: all that it has in its set have still to speak
    act : Active (later m) time false false (o m)
    act = record {
      inside = same (o m) ∙ sees m so so;
      kin = λ u hu e ne. first_kin m (o m) so yo u hu (sym (same u) ∙ e) ne ne;
      opposite = cc own;
      full = λ h {u} su ne. same u ∙ sees m so (back_sound given su);
      past = λ h k lo hi e. once n time k lo hi e;
    }
      where
        same : (q : ℕ) → set' (o m) q ≡ set (o m) q
        same = own_set given (o m) refl

    -- a sound seat that is left, if there is one, has a slot among the next n
    low : SomeSound (later m) → Low (later m) (suc time) ⊎ NoneSound (later m)
    low (some p sp) =
        let k : OwnSlot n p (suc time) = own_slot n p (suc time) sp.seat in
        inl (record { f = time; k = k.at; is = refl; low = k.low; high = omega (arith, k.high); next = rw k.owner sp })
    low (none h) = inr h

    pub sent : Inv (later m) (suc time) false false
    sent =
        after_first m (o m) so yo
        (record { holds = holds; pend = λ h. absurd (false≢true h); low = λ h. low (some_sound (later m)) })
        (active act (omega (arith, inv.size)))
        (λ h. refl)
