-- What one step of the model does to one seat, and the rows of the table that the argument uses. Assumes nothing.
use mathlib.Core.Bool.{Bool, true, false, true≢false, not, ◌&&◌}
use mathlib.Core.Logic.{◌⊎◌, inl, inr, ⊎_elim}
use mathlib.Core.Path.{◌≡◌, refl, sym, ap, ◌∙◌}
use Prim.Native.Nat.{ℕ, ◌<◌}
use native.Mathlib.Omega.{arith}
use lib.Dec.{eqb}
use borrow.Author.Tests.{eq-eqb, ne_eqb}
use Rattle.std.specs.Prelude.{Option, None, Some, is_none}
use Rattle.lists.specs.Kept.{kept}
use Rattle.lists.proofs.Kept.{none_is}
use Rattle.lists.proofs.Tests.{both}
use Rattle.lists.proofs.Found.{found}
use Rattle.turn.specs.Table.{table}
use Rattle.turn.specs.Turn.{fault_after}
use Rattle.turn.specs.declared.Removal.TheVariants.{Nobody}
use Rattle.turn.proofs.GoneLaws.{takes_itself}
use Rattle.demand3.proofs.Model.{State, Marked, owns, acts, rests, owner, role, arrived, row, leaves, drops, learns, hold, step}
use Rattle.demand3.proofs.Model.{Sound, Faulty, Terms}

-- a seat is sound or faulty
pub data Kind (s : State) (p : ℕ) : Type 0 where
  sound : Sound s p → Kind s p
  faulty : (f : ℕ) → Faulty s p f → Kind s p

pub kind : (s : State) (p : ℕ) → p < s.n → Kind s p
kind s p h = go (s.fault p) refl
  where
    go : (o : Option ℕ) → s.fault p ≡ o → Kind s p
    go None e = sound (record { seat = h; clean = e })
    go (Some f) e = faulty f (record { seat = h; since = e })

-- a seat is sound, or none is
pub data SomeSound (s : State) : Type 0 where
  some : (p : ℕ) → Sound s p → SomeSound s
  none : ((p : ℕ) → Sound s p → ⊥) → SomeSound s

pub some_sound : (s : State) → SomeSound s
some_sound s = go (found (λ p. is_none (s.fault p)) s.n)
  where
    go : ((p : ℕ) × (p < s.n) × (is_none (s.fault p) ≡ true)) ⊎ ((p : ℕ) → p < s.n → is_none (s.fault p) ≡ false) → SomeSound s
    go (inl (p, h, e)) = some p (record { seat = h; clean = none_is _ e })
    go (inr h) = none (λ p sp. true≢false (sym (ap is_none sp.clean) ∙ h p sp.seat))

-- ---- roles, and the sets after a step

module _ (t : Marked) (p : ℕ) where
  open t use {now}
  open now use {time, set, ack, doubt, fault}

  abbrev o : ℕ
  o = owner t

  abbrev later : State
  later = step t

  open later use {set as set', ack as ack', doubt as doubt', fault as fault'}

  pub role_own : p ≡ o → set p p ≡ true → role t p ≡ owns
  role_own e h = cc (eq-eqb p o e)

  pub role_act : (p ≡ o → ⊥) → set p p ≡ true → set p o ≡ true → role t p ≡ acts
  role_act e h k = cc (ne_eqb p o e)

  pub role_out : set p p ≡ false → role t p ≡ rests
  role_out h = ⊎_elim (λ e. cc) (λ e. cc) (both (eqb p o))

  pub role_blind : (p ≡ o → ⊥) → set p o ≡ false → role t p ≡ rests
  role_blind ne h = let b = ne_eqb p o ne in ⊎_elim (λ e. cc) (λ e. cc) (both (set p p))

  -- a seat that rests changes nothing
  pub record Still : Type 0 where
    pub set : (q : ℕ) → set' p q ≡ now.set p q
    pub ack : ack' p ≡ now.ack p
    pub doubt : doubt' p ≡ now.doubt p
    pub hold : hold t p ≡ false

  pub still : role t p ≡ rests → Still
  still r = record { set = λ q. cc; ack = cc; doubt = cc; hold = cc }

  -- the owner's set stays, in or out
  pub own_set : p ≡ o → (q : ℕ) → set' p q ≡ set p q
  own_set e q = ⊎_elim (λ h. let r = role_own e h in cc) (λ h. let r = role_out h in cc) (both (set p p))

  -- a seat that acts: nobody goes, all but the owner stay, the owner goes, the seat goes
  pub act_nobody : role t p ≡ acts → leaves t p ≡ false → drops t p ≡ false → (q : ℕ) → set' p q ≡ set p q
  act_nobody r y z q = ⊎_elim (λ h. cc) (λ h. cc) (both (set p q))

  pub act_other : role t p ≡ acts → leaves t p ≡ false → (q : ℕ) → (q ≡ o → ⊥) → set' p q ≡ set p q
  act_other r y q ne =
      let b = ne_eqb q o ne in
      ⊎_elim (λ k. ⊎_elim (λ h. cc) (λ h. cc) (both (set p q))) (λ k. act_nobody r y k q) (both (drops t p))

  pub act_owner : role t p ≡ acts → drops t p ≡ true → (q : ℕ) → q ≡ o → set' p q ≡ false
  act_owner r z q e = let b = eq-eqb q o e in ⊎_elim (λ h. cc) (λ h. cc) (both (set p q && not (leaves t p && eqb q p)))

  pub act_self : role t p ≡ acts → leaves t p ≡ true → set' p p ≡ false
  act_self r y = let b = eq-eqb p p refl in ⊎_elim (λ h. cc) (λ h. cc) (both (set p p))

-- ---- the rows that the argument uses

-- a seat that hears its own bit
agreed : (x d : Bool) → table true x x d ≡ record { removed = Nobody; ack = true }
agreed true d = refl
agreed false d = refl

-- a seat with its bit false, where the owner's is true
above : (arrived d : Bool) → takes_itself (table arrived true false d).removed ≡ true
above true d = refl
above false d = refl

module _ (t : Marked) (p : ℕ) where
  open t use {now}
  open now use {ack, doubt}

  -- it hears its own bit: nobody goes, and its bit is true
  pub agree_row : arrived t p ≡ true → ack p ≡ ack (owner t) → row t p ≡ record { removed = Nobody; ack = true }
  agree_row r e = cc (agreed (ack p) (doubt p))

  -- its bit is false, the owner's true: it goes, whether it hears or not
  pub low_leaves : ack (owner t) ≡ true → ack p ≡ false → leaves t p ≡ true
  low_leaves b e = cc (above (arrived t p) (doubt p))

  -- the owner goes and the seat stays, its bit false
  pub record DropsOwner : Type 0 where
    pub stays : leaves t p ≡ false
    pub drop : drops t p ≡ true
    pub low : learns t p ≡ false

  -- so it is where its bit is true and it hears nothing
  pub deaf_drops : arrived t p ≡ false → ack p ≡ true → DropsOwner
  deaf_drops r e = record { stays = cc; drop = cc; low = cc }

  -- and where its bit is true, it has no doubt, and the owner's bit is false
  pub false_drops : ack (owner t) ≡ false → ack p ≡ true → doubt p ≡ false → DropsOwner
  false_drops b e d =
      ⊎_elim (λ r. record { stays = cc; drop = cc; low = cc }) (λ r. deaf_drops r e) (both (arrived t p))

-- ---- first faults

pub differ : {s : State} {x f p : ℕ} → Faulty s x f → Sound s p → x ≡ p → ⊥
differ {s} x p i = cc (ap s.fault i, x.since, p.clean)

-- a seat has one first fault
pub one_first : {s : State} {x y f g : ℕ} → Faulty s x f → Faulty s y g → x ≡ y → f ≡ g
one_first {s} {f = f} {g = g} x y i = let e : Some f ≡ Some g = sym x.since ∙ ap s.fault i ∙ y.since in omega (arith, ap kept e)

-- which is never changed
first_kept : (held : Bool) (time f : ℕ) (fault : Option ℕ) → fault ≡ Some f → fault_after held time fault ≡ Some f
first_kept true time f fault e = rw e
first_kept false time f fault e = e

module _ (t : Marked) {p : ℕ} where
  open t use {now}

  pub stays_faulty : {f : ℕ} → Faulty now p f → Faulty (step t) p f
  stays_faulty {f} x = record { seat = x.seat; since = first_kept (hold t p) now.time f (now.fault p) x.since }

  pub back_sound : Sound (step t) p → Sound now p
  back_sound x = go (kind now p x.seat)
    where
      go : Kind now p → Sound now p
      go (sound y) = y
      go (faulty f y) = absurd (differ (stays_faulty y) x refl)

  pub unheld : hold t p ≡ false → Sound now p → Sound (step t) p
  unheld h x = record { seat = x.seat; clean = cc x.clean }

  pub held : hold t p ≡ true → Sound now p → Faulty (step t) p now.time
  held h x = record { seat = x.seat; since = cc x.clean }

-- the terms held before the step too
pub back_terms : (t : Marked) → Terms (step t) → Terms t.now
back_terms t w = record { apart = λ x y. w.apart (stays_faulty t x) (stays_faulty t y) }
