-- The slot of the faulty seat that the sound seats still hold: they all drop it. Assumes nothing.
use mathlib.Core.Bool.{true, false, not, false≢true}
use mathlib.Core.Logic.{◌⊎◌, inl, inr, ⊎_elim}
use mathlib.Core.Path.{◌≡◌, refl, sym, ◌∙◌, ap}
use Prim.Native.Nat.{ℕ, suc, ◌+◌, ◌<◌}
use native.Mathlib.Nat.{add-mod_right}
use native.Mathlib.Omega.{arith}
use borrow.Author.Tests.{eq-eqb, ne_eqb}
use Rattle.lists.proofs.Tests.{same?}
use Rattle.demand3.proofs.Slots.{once}
use Rattle.demand3.proofs.Model.{acts, role, speaks, hold, Sound, Faulty}
use Rattle.demand3.proofs.Seat.{role_own, role_act, own_set, act_other, act_owner, stays_faulty, differ, back_sound}
use Rattle.demand3.proofs.Seat.{DropsOwner, deaf_drops, false_drops}
use Rattle.demand3.proofs.Invariant.{Holds, Latest, gone, alone, active, Pending, Low, Inv, soon}
use Rattle.demand3.proofs.Moves.{Move, o, later, sees, back_faulty, keeps_sound, out_step, alone_step, passed_now, early, carry, after_quiet}

module _ (m : Move) where
  open m use {given, last, bit, due, inv, terms}
  open given use {now}
  open now use {n, time, set, ack, doubt}
  open later m use {set as set'}

  module _ (g : ℕ) (fo : Faulty now (o m) g) (el : last ≡ suc g) (ep : due ≡ true) where
    w : Pending now last bit
    w = inv.pend ep

    here : time < g + n
    here = omega (arith, soon now w, w.is)

    quiet : (p : ℕ) → Sound now p → hold given p ≡ false
    quiet = early m (omega arith) (omega (arith, here))

    -- the owner is the only seat with that first fault
    is_owner : {x f : ℕ} → Faulty now x f → last ≡ suc f → x ≡ o m
    is_owner {x} y e =
        ⊎_elim
        (λ i. i)
        (λ ne. absurd (omega (arith, terms.apart (stays_faulty given y) (stays_faulty given fo) ne (omega arith))))
        (same? x (o m))

    -- it is silent, or speaks false
    mute : (speaks given ≡ false) ⊎ (ack (o m) ≡ false)
    mute = go (inv.late fo el)
      where
        go : Latest now g bit due (o m) → (speaks given ≡ false) ⊎ (ack (o m) ≡ false)
        go (gone e) = inl (cc e)
        go (alone only down) = inr (down ep)
        go (active y h) = inr (y.opposite ∙ ap not w.heard)

    module _ (p : ℕ) (sp : Sound now p) where
      high : ack p ≡ true
      high = (inv.holds sp).says ∙ w.heard

      sure : doubt p ≡ false
      sure = (inv.holds sp).sure (cc ep)

      falls : (speaks given ≡ false) ⊎ (ack (o m) ≡ false) → DropsOwner given p
      falls (inl e) = deaf_drops given p (cc e) high
      falls (inr e) = false_drops given p e high sure

      r : role given p ≡ acts
      r =
          let seen : set p (o m) ≡ true = (inv.holds sp).others fo ∙ cc (ep, eq-eqb (suc g) last (sym el)) in
          role_act given p (λ i. differ fo sp (sym i)) (sees m sp sp) seen

      friends : {q : ℕ} → Sound now q → set' p q ≡ true
      friends {q} sq = act_other given p r (falls mute).stays q (λ i. differ fo sq (sym i)) ∙ sees m sp sq

      others : {x f : ℕ} → Faulty now x f → set' p x ≡ false
      others {x} {f} y =
          ⊎_elim
          (λ i. act_owner given p r (falls mute).drop x i)
          (λ i.
          act_other given p r (falls mute).stays x i
          ∙ (inv.holds sp).others y
          ∙ cc (ep, ne_eqb (suc f) last (λ k. i (is_owner y (sym k)))))
          (same? x (o m))

    holds : (p : ℕ) → Sound (later m) p → Holds (later m) last false false p
    holds p sp =
        let was : Sound now p = back_sound given sp in
        record {
          friends = λ sq. friends p was (back_sound given sq);
          others = λ y. others p was (back_faulty m quiet y);
          says = cc (r p was, (falls p was mute).low);
          sure = λ h. cc (r p was);
        }

    owner_latest : (f : ℕ) → last ≡ suc f → Latest now f bit due (o m) → Latest (later m) f false false (o m)
    owner_latest f e (gone k) = gone (out_step m (o m) k)
    owner_latest f e (alone only down) = alone (alone_step m (o m) only) (λ k. absurd (false≢true k))
    owner_latest f e (active y h) = carry m quiet y (omega (arith, inv.since)) (record {
      before = λ k. absurd (false≢true k);
      same = λ u ne. same u;
      inside = same (o m) ∙ y.inside;
      unseen = λ k. refl;
      opposite = cc (role_own given (o m) refl y.inside);
      full = λ k {u} su ne. same u ∙ y.full (cc ep) (back_sound given su) ne;
      past = λ k t lo hi i. once n time t lo (omega (arith, inv.since)) i;
    })
      where
        same : (q : ℕ) → set' (o m) q ≡ set (o m) q
        same = own_set given (o m) refl

    latest : (x f : ℕ) → Faulty now x f → last ≡ suc f → Latest now f bit due x → Latest (later m) f false false x
    latest x f y e k = let i : x ≡ o m = is_owner y e in rw i (owner_latest f e (rw i at k))

    -- the slot n after the first fault is that of the sound seat that was missed
    low : Low (later m) last
    low = record {
      f = w.f;
      k = w.f + n;
      is = w.is;
      low = omega (arith, soon now w);
      high = omega arith;
      next = rw add-mod_right (keeps_sound m quiet w.missed);
    }

    pub removed : Inv (later m) last false false
    removed =
        after_quiet m quiet
        (record { holds = holds; pend = λ h. absurd (false≢true h); low = λ h. inl low })
        latest
        (λ x f y e h. passed_now m (omega (arith, inv.since)) (is_owner y e))
