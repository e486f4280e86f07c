-- How late a removal can be: at most n - 1 slots, and in some runs exactly that. Assumes nothing.
use mathlib.Core.Bool.{Bool, true, false}
use mathlib.Core.Logic.{⊎_elim}
use mathlib.Core.Path.{◌≡◌, refl, sym, ◌∙◌}
use Prim.Native.Nat.{ℕ, ◌+◌, ◌%◌, ◌≤◌, ◌<◌}
use native.Mathlib.Omega.{arith}
use lib.Dec.{leb, ltb}
use lib.ListN.{get_or}
use borrow.Author.Tests.{leb-true, leb-false}
use Rattle.std.specs.Prelude.{Some}
use Rattle.lists.proofs.Tests.{both}
use Rattle.seats.specs.Sets.{has_seat}
use Rattle.ring.specs.Ring.{no_seat}
use Rattle.demand3.specs.Runs.{Run, before_own, after_own, before_out, after_out, stated}
use Rattle.demand3.specs.Late.{RemovedInOwnSlot, LateAtMost, After, Latest}
use Rattle.demand3.proofs.Slots.{own_slot, once}
use Rattle.demand3.proofs.Runs.{is_time, is_sound, is_fault, is_in, is_within}

pub removed_in_own_slot : RemovedInOwnSlot
removed_in_own_slot r a p x t k sp fx low high own =
    ⊎_elim
    (λ e. let h = leb-true r.time k e in a.stays_till sp fx (ahead h) ∙ sym e)
    (λ e. let h = leb-false r.time k e in a.left_by sp fx k low h own ∙ sym e)
    (both (leb r.time k))
  where
    -- a slot of x before k would be less than n before it
    ahead : r.time ≤ k → (j : ℕ) → t ≤ j → j < r.time → j % r.n ≡ x → ⊥
    ahead h j lo hi e = once r.n j k (omega arith) (omega arith) (own ∙ sym e)

pub late_at_most : LateAtMost
late_at_most r a p x t sp fx h =
    let k = own_slot r.n x t fx.seat in
    a.left_by sp fx k.at k.low (omega (arith, k.high)) k.owner

-- a moment of a run, by what is stated of it
moment : (a : Run) (p x t k : ℕ) (has : Bool) → ltb p (stated a).n ≡ true → ltb x (stated a).n ≡ true
    → (get_or (stated a).seats x no_seat).fault ≡ Some t → (stated a).time ≡ t + k → has_seat (get_or (stated a).seats p no_seat).set x ≡ has
    → After a p x t k has
moment a p x t k has hp hx f e h = record { fault = is_fault a x t hx f; time = is_time a ∙ e; holds = is_in a p x hp ∙ h }

pub latest : Latest
latest = record {
  sound = is_sound after_own 0 refl refl;
  from_theirs = record {
    longer = refl;
    within = is_within after_own (omega arith) (omega arith) refl;
    before = moment before_own 0 3 0 3 true refl refl refl refl refl;
    after = moment after_own 0 3 0 4 false refl refl refl refl refl;
  };
  from_its_own = record {
    longer = refl;
    within = is_within after_out (omega arith) (omega arith) refl;
    before = moment before_out 1 1 0 2 true refl refl refl refl refl;
    after = moment after_out 1 1 0 3 false refl refl refl refl refl;
  };
}
