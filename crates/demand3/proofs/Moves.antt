-- What every kind of step shares: a seat that is out or alone stays so, first faults are spaced, and what is
-- left to show that the invariant is kept, by a step with a first fault and by one without. Assumes nothing.
-- Names, here and in the kinds of step: `so` and `sp` say that the owner and p are sound, `fx` that x is
-- faulty, `e..` are equations.
use mathlib.Core.Bool.{Bool, true, false, not, false≢true, true≢false, ◌||◌}
use mathlib.Core.Logic.{◌⊎◌, inl, inr, ⊎_elim}
use mathlib.Core.Path.{◌≡◌, refl, sym, ◌∙◌, ap}
use Prim.Native.Nat.{ℕ, suc, ◌+◌, ◌%◌, ◌≤◌, ◌<◌}
use native.Mathlib.Nat.{mod-lt}
use native.Mathlib.Omega.{arith}
use lib.Dec.{ltb}
use borrow.Author.Tests.{ltb-true, ltb-false}
use Rattle.lists.proofs.Tests.{both, same?}
use Rattle.demand3.proofs.Model.{State, Marked, owns, acts, owner, role, hold, step, Sound, Faulty, Terms}
use Rattle.demand3.proofs.Seat.{Kind, sound, faulty, kind, differ, one_first, stays_faulty, unheld, held}
use Rattle.demand3.proofs.Seat.{role_own, role_act, role_out, role_blind, still, own_set, act_nobody, agree_row}
use Rattle.demand3.proofs.Invariant.{Holds, Alone, Ahead, Active, Latest, gone, alone, active, Pending, Low, NoneSound, Top, Passed, Inv, soon, settle}

-- a step within the fault terms, from a state of which the invariant holds
pub record Move : Type 0 where
  pub given : Marked
  pub last : ℕ
  pub bit : Bool
  pub due : Bool
  pub inv : Inv given.now last bit due
  pub terms : Terms (step given)

module _ (m : Move) where
  open m use {given, last, bit, due, inv, terms}
  open given use {now}
  open now use {n, time, set}

  -- the slot's owner, and the state after the step
  abbrev pub o : ℕ
  o = owner given

  abbrev pub later : State
  later = step given

  open later use {set as set', ack as ack'}

  pub slot_seat : (k : ℕ) → k % n < n
  slot_seat k = mod-lt k (omega (arith, inv.size))

  pub sees : {p q : ℕ} → Sound now p → Sound now q → set p q ≡ true
  sees p q = (inv.holds p).friends q

  -- ---- a seat that is out, or alone

  blind : (x : ℕ) → Alone now x → (x ≡ o → ⊥) → set x o ≡ false
  blind x only ne = ⊎_elim (λ e. absurd (ne (sym (only o (slot_seat time) e)))) (λ e. e) (both (set x o))

  pub out_step : (x : ℕ) → set x x ≡ false → set' x x ≡ false
  out_step x e = (still given x (role_out given x e)).set x ∙ e

  pub alone_step : (x : ℕ) → Alone now x → Alone later x
  alone_step x only q h e =
      ⊎_elim
      (λ i. only q h (sym (own_set given x i q) ∙ e))
      (λ i. only q h (sym ((still given x (role_blind given x i (blind x only i))).set q) ∙ e))
      (same? x o)

  pub alone_ack : (x : ℕ) → Alone now x → (x ≡ o → ⊥) → ack' x ≡ now.ack x
  alone_ack x only ne = (still given x (role_blind given x ne (blind x only ne))).ack

  ended_step : {x : ℕ} → (set x x ≡ false) ⊎ Alone now x → (set' x x ≡ false) ⊎ Alone later x
  ended_step {x} (inl e) = inl (out_step x e)
  ended_step {x} (inr only) = inr (alone_step x only)

  -- ---- slots

  pub ahead_step : {f u : ℕ} → Ahead now f u → (u ≡ o → ⊥) → Ahead later f u
  ahead_step old ne k lo hi e =
      ⊎_elim (λ y. ne (sym e ∙ ap (λ (i : ℕ). i % n) y)) (λ y. old k lo (omega arith) e) (same? k time)

  pub passed_step : {f x : ℕ} → Passed now f x → Passed later f x
  passed_step w = record { k = w.k; low = w.low; high = omega (arith, w.high); owner = w.owner }

  pub passed_now : {f x : ℕ} → f ≤ time → x ≡ o → Passed later f x
  passed_now h e = record { k = time; low = h; high = omega arith; owner = sym e }

  -- ---- a sound seat that hears a sound owner, or is it

  pub record Hears (p : ℕ) : Type 0 where
    pub same : (q : ℕ) → set' p q ≡ set p q
    pub acks : ack' p ≡ true
    pub sure : bit ≡ true → later.doubt p ≡ false

  pub role_sound : {p : ℕ} → Sound now o → Sound now p → (p ≡ o → ⊥) → role given p ≡ acts
  role_sound {p} so sp i = role_act given p i (sees sp sp) (sees sp so)

  pub hears : {p : ℕ} → Sound now o → given.send ≡ false → Sound now p → ((p ≡ o → ⊥) → given.receive p ≡ false) → Hears p
  hears {p} so es sp heard = ⊎_elim own other (same? p o)
    where
      own : p ≡ o → Hears p
      own i =
          let r : role given p ≡ owns = role_own given p i (sees sp sp) in
          record { same = own_set given p i; acks = cc r; sure = λ h. cc (r, (inv.holds sp).says, h) }

      other : (p ≡ o → ⊥) → Hears p
      other i =
          let r : role given p ≡ acts = role_sound so sp i in
          let w = agree_row given p (cc (es, sees so so, heard i)) ((inv.holds sp).says ∙ sym (inv.holds so).says) in
          record { same = act_nobody given p r (cc w) (cc w); acks = cc (r, w); sure = λ k. cc r }

  -- ---- first faults

  -- none comes before the latest one is n + 1 slots back
  pub early : 0 < last → time < last + n → (p : ℕ) → Sound now p → hold given p ≡ false
  early pos h p x = ⊎_elim (λ y. absurd (clash y (inv.top pos))) (λ y. y) (both (hold given p))
    where
      clash : hold given p ≡ true → Top now last → ⊥
      clash y w =
          let since : w.f ≤ time = omega (arith, inv.since, w.is) in
          omega (arith, w.is, terms.apart (stays_faulty given w.late) (held given y x) (differ w.late x) since)

  faulty_before : {x f : ℕ} → Faulty later x f → (Sound now x → Sound later x) → Faulty now x f
  faulty_before {x} {f} y stays = go (kind now x y.seat)
    where
      go : Kind now x → Faulty now x f
      go (sound z) = absurd (differ y (stays z) refl)
      go (faulty g z) = record { seat = y.seat; since = z.since ∙ sym (stays_faulty given z).since ∙ y.since }

  -- what is to be shown of the state after any step
  pub record Shown (last' : ℕ) (bit' due' : Bool) : Type 0 where
    pub holds : (p : ℕ) → Sound later p → Holds later last' bit' due' p
    pub pend : due' ≡ true → Pending later last' bit'
    pub low : bit' ≡ false → Low later last' ⊎ NoneSound later

  -- ---- the step in which c has its first fault

  module _ (c : ℕ) (sc : Sound now c) (yc : hold given c ≡ true) where
    pub starts : Faulty later c time
    starts = held given yc sc

    spaced : 0 < last → time < last + n → ⊥
    spaced pos h = true≢false (sym yc ∙ early pos h c sc)

    pub calm : due ≡ false
    calm = ⊎_elim (λ e. absurd (go (inv.pend e))) (λ e. e) (both due)
      where
        go : Pending now last bit → ⊥
        go w = spaced (omega (arith, w.is)) (omega (arith, w.is, soon now w))

    pub up : bit ≡ true
    up = ⊎_elim (λ e. e) (λ e. absurd (go (inv.low e))) (both bit)
      where
        go : Low now last ⊎ NoneSound now → ⊥
        go (inl w) = spaced (omega (arith, w.is)) (omega (arith, w.is, w.low, w.high))
        go (inr none) = none c sc

    pub unmarked : {q : ℕ} → Sound now q → (q ≡ c → ⊥) → hold given q ≡ false
    unmarked {q} x ne =
        ⊎_elim (λ y. absurd (omega (arith, terms.apart (held given y x) starts ne (omega arith)))) (λ y. y) (both (hold given q))

    pub still_sound : {q : ℕ} → Sound now q → (q ≡ c → ⊥) → Sound later q
    still_sound x ne = unheld given (unmarked x ne) x

    pub was_faulty : {x f : ℕ} → Faulty later x f → (x ≡ c → ⊥) → Faulty now x f
    was_faulty y ne = faulty_before y (λ z. still_sound z ne)

    -- those that c has in its set: no faulty seat among them
    pub first_kin : (u : ℕ) → u < n → set c u ≡ true → (u ≡ c → ⊥) → (u ≡ o → ⊥) → Sound later u × Ahead later time u
    first_kin u hu e ne nu = (still_sound (go (kind now u hu)) ne, λ k lo hi i. nu (sym i ∙ ap (λ (j : ℕ). j % n) (omega arith)))
      where
        go : Kind now u → Sound now u
        go (sound y) = y
        go (faulty f y) = absurd (false≢true (cc (e, (inv.holds sc).others y, calm)))

    settled : {x f : ℕ} → Faulty now x f → (set x x ≡ false) ⊎ Alone now x
    settled {x} {f} y = ⊎_elim (λ e. inv.old y (ltb-true _ _ e)) (λ e. latest (ltb-false _ _ e)) (both (ltb (suc f) last))
      where
        by : last ≡ suc f → Latest now f bit due x → (set x x ≡ false) ⊎ Alone now x
        by e (gone k) = inl k
        by e (alone only k) = inr only
        by e (active k h) = absurd (spaced (omega arith) (omega arith))

        latest : last ≤ suc f → (set x x ≡ false) ⊎ Alone now x
        latest h = let e : last ≡ suc f = omega (arith, inv.most y) in by e (inv.late y e)

    -- c's first fault is now, and any other's was before
    first_now : {x f : ℕ} → Faulty later x f → x ≡ c → f ≡ time
    first_now y e = one_first y starts e

    first_then : {x f : ℕ} → Faulty later x f → (x ≡ c → ⊥) → f < time
    first_then y ne = omega (arith, inv.most (was_faulty y ne), inv.since)

    pub after_first : {bit' due' : Bool} → Shown (suc time) bit' due' → Latest later time bit' due' c → (due' ≡ false → c ≡ o)
        → Inv later (suc time) bit' due'
    after_first {bit'} {due'} w late own = record {
      size = inv.size;
      since = omega arith;
      most = λ {x} y. ⊎_elim (λ e. omega (arith, first_now y e)) (λ ne. omega (arith, first_then y ne)) (same? x c);
      top = λ h. record { f = time; x = c; is = refl; late = starts };
      holds = λ {p} x. w.holds p x;
      old = old;
      late = latest;
      pend = w.pend;
      over = λ h y e. passed_now (omega arith) (is_c y e ∙ own h);
      low = w.low;
    }
      where
        is_c : {x f : ℕ} → Faulty later x f → suc time ≡ suc f → x ≡ c
        is_c {x} y e = ⊎_elim (λ i. i) (λ ne. absurd (omega (arith, first_then y ne))) (same? x c)

        old : {x f : ℕ} → Faulty later x f → suc f < suc time → (set' x x ≡ false) ⊎ Alone later x
        old {x} y h =
            ⊎_elim (λ e. absurd (omega (arith, first_now y e))) (λ ne. ended_step (settled (was_faulty y ne))) (same? x c)

        latest : {x f : ℕ} → Faulty later x f → suc time ≡ suc f → Latest later f bit' due' x
        latest {x} {f} y e = let z : time ≡ f = omega arith in rw (is_c y e, ← z) late

  -- ---- a step with no first fault

  module _ (quiet : (p : ℕ) → Sound now p → hold given p ≡ false) where
    pub keeps_sound : {p : ℕ} → Sound now p → Sound later p
    keeps_sound {p} x = unheld given (quiet p x) x

    pub back_faulty : {x f : ℕ} → Faulty later x f → Faulty now x f
    back_faulty y = faulty_before y keeps_sound

    -- what an active seat x goes on by: only the owner may leave its set, and its bit is still not that of
    -- the sound seats
    pub record Carried (f x : ℕ) (bit' due' : Bool) : Type 0 where
      pub before : due' ≡ true → suc time < f + n
      pub same : (u : ℕ) → (u ≡ o → ⊥) → set' x u ≡ set x u
      pub inside : set' x x ≡ true
      pub unseen : set' x o ≡ true → o ≡ x
      pub opposite : ack' x ≡ not bit'
      pub full : (due' || not bit') ≡ true → {u : ℕ} → Sound later u → (u ≡ f % n → ⊥) → set' x u ≡ true
      pub past : due' ≡ false → (k : ℕ) → suc time ≤ k → k < f + n → k % n ≡ x → ⊥

    pub carry : {f x : ℕ} {bit' due' : Bool} → Active now f bit due x → f < time → Carried f x bit' due' → Latest later f bit' due' x
    carry {f} {x} y h w =
        settle later (omega arith) w.before
        (record { inside = w.inside; kin = kin; opposite = w.opposite; full = w.full; past = w.past })
      where
        kin : (u : ℕ) → u < n → set' x u ≡ true → (u ≡ x → ⊥) → Sound later u × Ahead later f u
        kin u hu e ne =
            let i : u ≡ o → ⊥ = λ k. ne (k ∙ w.unseen (ap (set' x) (sym k) ∙ e)) in
            let z = y.kin u hu (sym (w.same u i) ∙ e) ne in
            (keeps_sound z.0, ahead_step z.1 i)

    pub pending_step : (w : Pending now last bit) → (w.x ≡ o → ⊥) → Pending later last true
    pending_step w ne = record {
      f = w.f;
      x = w.x;
      is = w.is;
      late = stays_faulty given w.late;
      heard = refl;
      missed = keeps_sound w.missed;
      ahead = ahead_step w.ahead ne;
    }

    pub after_quiet : {bit' due' : Bool} → Shown last bit' due'
        → ((x f : ℕ) → Faulty now x f → last ≡ suc f → Latest now f bit due x → Latest later f bit' due' x)
        → ((x f : ℕ) → Faulty now x f → last ≡ suc f → due' ≡ false → Passed later f x)
        → Inv later last bit' due'
    after_quiet w late over = record {
      size = inv.size;
      since = omega (arith, inv.since);
      most = λ y. inv.most (back_faulty y);
      top = λ pos. let k = inv.top pos in record { f = k.f; x = k.x; is = k.is; late = stays_faulty given k.late };
      holds = λ {p} x. w.holds p x;
      old = λ y h. ended_step (inv.old (back_faulty y) h);
      late = λ {x} {f} y e. late x f (back_faulty y) e (inv.late (back_faulty y) e);
      pend = w.pend;
      over = λ h {x} {f} y e. over x f (back_faulty y) e h;
      low = w.low;
    }
