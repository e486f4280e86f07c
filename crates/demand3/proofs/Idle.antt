-- A slot whose owner the sound seats do not hold: nothing changes for them. Assumes nothing.
use mathlib.Core.Bool.{true, false, ◌&&◌, false≢true}
use mathlib.Core.Logic.{◌⊎◌, inl, inr, ⊎_elim}
use mathlib.Core.Path.{◌≡◌, refl, sym, ◌∙◌, ap}
use Prim.Native.Nat.{ℕ, suc, ◌%◌}
use native.Mathlib.Omega.{arith}
use lib.Dec.{eqb}
use borrow.Author.Tests.{eq-eqb}
use Rattle.lists.proofs.Tests.{both, same?}
use Rattle.demand3.proofs.Model.{hold, Sound, Faulty}
use Rattle.demand3.proofs.Seat.{role_blind, Still, still, differ, one_first, back_sound}
use Rattle.demand3.proofs.Invariant.{Holds, Active, Latest, gone, alone, active, Pending, Low, NoneSound, Inv, soon}
use Rattle.demand3.proofs.Moves.{Move, o, later, slot_seat, back_faulty, keeps_sound, out_step, alone_step, alone_ack, passed_step}
use Rattle.demand3.proofs.Moves.{carry, pending_step, after_quiet}

module _ (m : Move) where
  open m use {given, last, bit, due, inv}
  open given use {now}
  open now use {n, time, set}
  open later m use {set as set'}

  module _ (g : ℕ) (fo : Faulty now (o m) g) (eb : (due && eqb (suc g) last) ≡ false) where
    rest : (p : ℕ) → Sound now p → Still given p
    rest p sp = still given p (role_blind given p (λ i. differ fo sp (sym i)) ((inv.holds sp).others fo ∙ eb))

    quiet : (p : ℕ) → Sound now p → hold given p ≡ false
    quiet p sp = (rest p sp).hold

    holds : (p : ℕ) → Sound (later m) p → Holds (later m) last bit due p
    holds p sp =
        let was : Sound now p = back_sound given sp in
        let z : Still given p = rest p was in
        let h : Holds now last bit due p = inv.holds was in
        record {
          friends = λ {q} sq. z.set q ∙ h.friends (back_sound given sq);
          others = λ {x} y. z.set x ∙ h.others (back_faulty m quiet y);
          says = z.ack ∙ h.says;
          sure = λ k. z.doubt ∙ h.sure k;
        }

    -- the owner is not the seat that they still hold
    calm_owner : {x f : ℕ} → Faulty now x f → last ≡ suc f → x ≡ o m → due ≡ false
    calm_owner {x} {f} y e i =
        let same : suc g ≡ last = ap suc (one_first fo y (sym i)) ∙ sym e in
        ⊎_elim (λ k. absurd (false≢true (cc (eb, k, eq-eqb (suc g) last same)))) (λ k. k) (both due)

    pending : due ≡ true → Pending (later m) last bit
    pending e =
        let w : Pending now last bit = inv.pend e in
        rw w.heard (pending_step m quiet w (λ i. false≢true (sym (calm_owner w.late w.is i) ∙ e)))

    -- the sound slot that comes is not this one
    low : Low now last ⊎ NoneSound now → Low (later m) last ⊎ NoneSound (later m)
    low (inl w) =
        inl (record {
          f = w.f;
          k = w.k;
          is = w.is;
          low = ⊎_elim
              (λ i. absurd (differ fo w.next (ap (λ (j : ℕ). j % n) (sym i))))
              (λ i. omega (arith, w.low))
              (same? w.k time);
          high = w.high;
          next = keeps_sound m quiet w.next;
        })
    low (inr none) = inr (λ p sp. none p (back_sound given sp))

    module _ (x f : ℕ) (fx : Faulty now x f) (el : last ≡ suc f) where
      unseen : Active now f bit due x → (x ≡ o m → ⊥) → set x (o m) ≡ false → Latest (later m) f bit due x
      unseen y i e =
          let s : Still given x = still given x (role_blind given x i e) in
          carry m quiet y (omega (arith, inv.since)) (record {
            before = λ k. omega (arith, soon (later m) (pending k), (pending k).is);
            same = λ u ne. s.set u;
            inside = s.set x ∙ y.inside;
            unseen = λ k. absurd (false≢true (sym e ∙ sym (s.set (o m)) ∙ k));
            opposite = s.ack ∙ y.opposite;
            full = λ k {u} su ne. s.set u ∙ y.full k (back_sound given su) ne;
            past = λ k t lo hi j. y.past k t (omega arith) hi j;
          })

      -- it has no faulty seat in its set but itself
      other : Active now f bit due x → (x ≡ o m → ⊥) → Latest (later m) f bit due x
      other y i =
          ⊎_elim
          (λ e. absurd (differ fo (y.kin (o m) (slot_seat m time) e (λ k. i (sym k))).0 refl))
          (λ e. unseen y i e)
          (both (set x (o m)))

      latest : Latest now f bit due x → Latest (later m) f bit due x
      latest (gone e) = gone (out_step m x e)
      latest (alone only down) = alone (alone_step m x only) (λ e.
          ⊎_elim
          (λ i. absurd (false≢true (sym (calm_owner fx el i) ∙ e)))
          (λ i. alone_ack m x only i ∙ down e)
          (same? x (o m)))
      latest (active y h) =
          ⊎_elim (λ i. absurd (y.past (calm_owner fx el i) time (omega arith) h (sym i))) (λ i. other y i) (same? x (o m))

    pub idle : Inv (later m) last bit due
    idle =
        after_quiet m quiet
        (record { holds = holds; pend = pending; low = λ e. low (inv.low e) })
        latest
        (λ x f y e h. passed_step m (inv.over h y e))
