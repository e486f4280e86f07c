-- A state of which the invariant and the fault terms hold is in agreement. Assumes nothing.
use mathlib.Core.Bool.{true, false}
use mathlib.Core.Logic.{◌⊎◌, inl, inr, ⊎_elim}
use mathlib.Core.Path.{◌≡◌, sym, ◌∙◌, ap}
use Prim.Native.Nat.{ℕ, suc, ◌+◌, ◌%◌, ◌≤◌, ◌<◌}
use native.Mathlib.Omega.{arith}
use lib.Dec.{eqb, ltb}
use borrow.Author.Tests.{eqb-true, eq-eqb, ne_eqb, ltb-true, ltb-false}
use Rattle.lists.proofs.Tests.{both, and-true, and_of, same?}
use Rattle.demand3.proofs.Slots.{OwnSlot, own_slot}
use Rattle.demand3.proofs.Model.{State, Sound, Faulty, Terms, Agrees}
use Rattle.demand3.proofs.Seat.{Kind, sound, faulty, kind, one_first}
use Rattle.demand3.proofs.Invariant.{Alone, Latest, gone, alone, active, Pending, Top}
use Rattle.demand3.proofs.Kept.{Kept}

module _ (s : State) (w : Kept s) (terms : Terms s) where
  open s use {n, time, set}
  open w use {last, bit, due, inv}

  -- two seats with one first fault are one
  alike : {x y f g : ℕ} → Faulty s x f → Faulty s y g → f ≡ g → x ≡ y
  alike {x} {y} fx fy e = ⊎_elim (λ i. i) (λ i. absurd (omega (arith, terms.apart fx fy i (omega arith)))) (same? x y)

  same_set : {p q r : ℕ} → Sound s p → Sound s q → Kind s r → set p r ≡ set q r
  same_set sp sq (sound sr) = (inv.holds sp).friends sr ∙ sym ((inv.holds sq).friends sr)
  same_set sp sq (faulty f fr) = (inv.holds sp).others fr ∙ sym ((inv.holds sq).others fr)

  -- ---- the faulty seat in their sets

  -- it is the latest, and due
  held : {p x f : ℕ} → Sound s p → Faulty s x f → set p x ≡ true → (due ≡ true) × (suc f ≡ last)
  held {f = f} sp fx ix =
      let e = and-true due (eqb (suc f) last) (sym ((inv.holds sp).others fx) ∙ ix) in
      (e.0, eqb-true (suc f) last e.1)

  removed_by : {p x f : ℕ} → Sound s p → Faulty s x f → (k : ℕ) → f ≤ k → k < time → k % n ≡ x → set p x ≡ false
  removed_by {p} {x} {f} sp fx k lo hi e =
      ⊎_elim (λ i. let h = held sp fx i in absurd (kept_in h.1 (inv.pend h.0))) (λ i. i) (both (set p x))
    where
      kept_in : suc f ≡ last → Pending s last bit → ⊥
      kept_in c z = z.ahead k (omega (arith, z.is)) hi (e ∙ alike fx z.late (omega (arith, z.is)))

  -- an older one has had its slot
  older : {x f : ℕ} → Faulty s x f → suc f < last → ((k : ℕ) → f ≤ k → k < time → k % n ≡ x → ⊥) → ⊥
  older {x} {f} fx h ahead = go (inv.top (omega arith)) (own_slot n x f fx.seat)
    where
      go : Top s last → OwnSlot n x f → ⊥
      go z k =
          let ne : x ≡ z.x → ⊥ = λ i. omega (arith, one_first fx z.late i, z.is) in
          let far = terms.apart fx z.late ne (omega (arith, z.is)) in
          ahead k.at k.low (omega (arith, k.high, inv.since, z.is)) k.owner

  kept_till : {p x f : ℕ} → Sound s p → Faulty s x f → ((k : ℕ) → f ≤ k → k < time → k % n ≡ x → ⊥) → set p x ≡ true
  kept_till {p} {x} {f} sp fx ahead =
      (inv.holds sp).others fx ∙ and_of is_due (eq-eqb (suc f) last (sym latest))
    where
      latest : last ≡ suc f
      latest =
          ⊎_elim
          (λ e. absurd (older fx (ltb-true (suc f) last e) ahead))
          (λ e. let h = ltb-false (suc f) last e in omega (arith, inv.most fx))
          (both (ltb (suc f) last))

      is_due : due ≡ true
      is_due = ⊎_elim (λ e. e) (λ e. let z = inv.over e fx latest in absurd (ahead z.k z.low z.high z.owner)) (both due)

  -- ---- the faulty seat's own set

  abbrev Ended : ℕ → Type 0
  Ended x = (set x x ≡ false) ⊎ ((q : ℕ) → q < n → set x q ≡ eqb q x)

  ended : {x : ℕ} → (set x x ≡ false) ⊎ Alone s x → Ended x
  ended (inl e) = inl e
  ended {x} (inr only) = ⊎_elim (λ e. inr (λ q hq. ⊎_elim (self e) (other q hq) (same? q x))) (λ e. inl e) (both (set x x))
    where
      self : set x x ≡ true → {q : ℕ} → q ≡ x → set x q ≡ eqb q x
      self e {q} i = ap (set x) i ∙ e ∙ sym (eq-eqb q x i)

      other : (q : ℕ) → q < n → (q ≡ x → ⊥) → set x q ≡ eqb q x
      other q hq i = ⊎_elim (λ k. absurd (i (only q hq k))) (λ k. k ∙ sym (ne_eqb q x i)) (both (set x q))

  ended_by : {x f : ℕ} → Faulty s x f → f + n ≤ time → Ended x
  ended_by {x} {f} fx le =
      ⊎_elim (λ e. ended (inv.old fx (ltb-true _ _ e))) (λ e. last_one (ltb-false _ _ e)) (both (ltb (suc f) last))
    where
      by : Latest s f bit due x → (set x x ≡ false) ⊎ Alone s x
      by (gone e) = inl e
      by (alone only down) = inr only
      by (active y t) = absurd (omega arith)

      last_one : last ≤ suc f → Ended x
      last_one k = ended (by (inv.late fx (omega (arith, inv.most fx))))

  pub agrees : Agrees s
  agrees = record {
    one_set = λ sp sq r hr. same_set sp sq (kind s r hr);
    one_ack = λ sp sq. (inv.holds sp).says ∙ sym (inv.holds sq).says;
    sound_in = λ sp sq. (inv.holds sp).friends sq;
    one_faulty = λ sp fx fy ix iy. alike fx fy (omega (arith, (held sp fx ix).1, (held sp fy iy).1));
    removed_by = removed_by;
    kept_till = kept_till;
    ended_by = ended_by;
  }
