-- Serves the proofs alone: nothing that a reader must believe rests on this file. The ring over functions of
-- the seats, with the engine's own table: the model in which agreement is argued. View shows that its step is the
-- engine's.
use mathlib.Core.Bool.{Bool, true, false, not, ◌&&◌}
use mathlib.Core.Logic.{◌⊎◌}
use mathlib.Core.Path.{◌≡◌}
use Prim.Native.Nat.{ℕ, suc, ◌+◌, ◌%◌, ◌≤◌, ◌<◌}
use lib.Dec.{eqb}
use Rattle.std.specs.Prelude.{Option, None, Some}
use Rattle.limits.specs.Limits.{seats_least}
use Rattle.turn.specs.Table.{Row, table}
use Rattle.turn.specs.Turn.{fault_after}
use Rattle.turn.proofs.GoneLaws.{takes_itself, takes_owner}

-- `set p q`: q is in p's set. `fault p`: the time of p's first fault, if it has had one
pub record State : Type 0 where
  pub n : ℕ
  pub time : ℕ
  pub set : ℕ → ℕ → Bool
  pub ack : ℕ → Bool
  pub doubt : ℕ → Bool
  pub fault : ℕ → Option ℕ

-- every seat in every set, every acknowledgement true, every doubt false, no faults
pub record Fresh (s : State) : Type 0 where
  pub size : seats_least ≤ s.n
  pub full : {p q : ℕ} → p < s.n → q < s.n → s.set p q ≡ true
  pub says : {p : ℕ} → p < s.n → s.ack p ≡ true
  pub sure : {p : ℕ} → p < s.n → s.doubt p ≡ false
  pub clean : {p : ℕ} → p < s.n → s.fault p ≡ None

-- ---- one step

-- what a seat does in a slot: it owns it, it decides by the table, or nothing
pub data Role : Type 0 where
  owns : Role
  acts : Role
  rests : Role

-- is it the owner; is it in its own set; is the owner in its set
abbrev pub role_of : Bool → Bool → Bool → Role
role_of true true expects = owns
role_of true false expects = rests
role_of false true true = acts
role_of false true false = rests
role_of false false expects = rests

abbrev pub by_role : {A : Type 0} → Role → A → A → A → A
by_role owns x y z = x
by_role acts x y z = y
by_role rests x y z = z

-- a state with the marks of the step that it takes
pub record Marked : Type 0 where
  pub now : State
  pub send : Bool
  pub receive : ℕ → Bool

module _ (t : Marked) where
  open t use {now, send, receive}
  open now use {n, time, set, ack, doubt, fault}

  abbrev pub owner : ℕ
  owner = time % n

  abbrev pub role : ℕ → Role
  role p = role_of (eqb p owner) (set p p) (set p owner)

  -- the owner speaks if it is in its own set and has no send mark
  abbrev pub speaks : Bool
  speaks = set owner owner && not send

  abbrev pub arrived : ℕ → Bool
  arrived p = speaks && not (receive p)

  -- what a seat that decides is told by the table
  abbrev pub row : ℕ → Row
  row p = table (arrived p) (ack owner) (ack p) (doubt p)

  abbrev pub leaves : ℕ → Bool
  leaves p = takes_itself (row p).removed

  abbrev pub drops : ℕ → Bool
  drops p = takes_owner (row p).removed

  abbrev pub learns : ℕ → Bool
  learns p = (row p).ack

  -- a mark takes hold on the seat
  abbrev pub hold : ℕ → Bool
  hold p = by_role (role p) send (speaks && receive p) false

  -- the set of a seat that decides
  abbrev pub left : ℕ → ℕ → Bool
  left p q = set p q && not (leaves p && eqb q p) && not (drops p && eqb q owner)

  abbrev pub step : State
  step = record {
    n = n;
    time = suc time;
    set = λ p q. by_role (role p) (set p q) (left p q) (set p q);
    ack = λ p. by_role (role p) true (learns p) (ack p);
    doubt = λ p. by_role (role p) (not (ack p)) false (doubt p);
    fault = λ p. fault_after (hold p) time (fault p);
  }

-- ---- the fault terms, and what is to hold

module _ (s : State) where
  open s use {n, time, set, ack, fault}

  pub record Sound (p : ℕ) : Type 0 where
    pub seat : p < n
    pub clean : fault p ≡ None

  -- x had its first fault at time f
  pub record Faulty (x f : ℕ) : Type 0 where
    pub seat : x < n
    pub since : fault x ≡ Some f

  -- first faults are at least n + 1 slots apart. (Document 01 asks for two sound seats too; agreement does
  -- not need them)
  pub record Terms : Type 0 where
    pub apart : {x y f g : ℕ} → Faulty x f → Faulty y g → (x ≡ y → ⊥) → f ≤ g → f + n < g

  pub record Agrees : Type 0 where
    pub one_set : {p q : ℕ} → Sound p → Sound q → (r : ℕ) → r < n → set p r ≡ set q r
    pub one_ack : {p q : ℕ} → Sound p → Sound q → ack p ≡ ack q
    pub sound_in : {p q : ℕ} → Sound p → Sound q → set p q ≡ true
    pub one_faulty : {p x y f g : ℕ} → Sound p → Faulty x f → Faulty y g → set p x ≡ true → set p y ≡ true → x ≡ y
    pub removed_by : {p x f : ℕ} → Sound p → Faulty x f → (k : ℕ) → f ≤ k → k < time → k % n ≡ x → set p x ≡ false
    pub kept_till : {p x f : ℕ} → Sound p → Faulty x f → ((k : ℕ) → f ≤ k → k < time → k % n ≡ x → ⊥) → set p x ≡ true
    pub ended_by : {x f : ℕ} → Faulty x f → f + n ≤ time → (set x x ≡ false) ⊎ ((q : ℕ) → q < n → set x q ≡ eqb q x)
