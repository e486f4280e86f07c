-- Slot arithmetic: of any n slots in a row each seat owns exactly one. Assumes nothing.
use mathlib.Core.Logic.{⊎_elim}
use mathlib.Core.Path.{◌≡◌, sym, ◌∙◌, ap}
use Prim.Native.Nat.{ℕ, ◌+◌, ◌-◌, ◌%◌, ◌≤◌, ◌<◌}
use native.Mathlib.Nat.{mod-lt, mod-eq_of_lt, mod-add-mod, add-mod_left, mod-eq-sub-mod}
use native.Mathlib.Omega.{arith}
use lib.Dec.{leb}
use borrow.Author.Tests.{leb-true, leb-false}
use Rattle.lists.proofs.Tests.{both}

-- a slot of seat u among the n from lo on
pub record OwnSlot (n u lo : ℕ) : Type 0 where
  pub at : ℕ
  pub low : lo ≤ at
  pub high : at < lo + n
  pub owner : at % n ≡ u

pub own_slot : (n u lo : ℕ) → u < n → OwnSlot n u lo
own_slot n u lo h =
    ⊎_elim (λ e. near (leb-true (lo % n) u e)) (λ e. far (leb-false (lo % n) u e)) (both (leb (lo % n) u))
  where
    r : lo % n < n
    r = mod-lt lo (omega arith)

    near : lo % n ≤ u → OwnSlot n u lo
    near le =
        let e : lo % n + (u - lo % n) ≡ u = omega arith in
        record {
          at = lo + (u - lo % n);
          low = omega arith;
          high = omega (arith, r);
          owner = sym (mod-add-mod lo n (u - lo % n)) ∙ ap (λ (k : ℕ). k % n) e ∙ mod-eq_of_lt h;
        }

    far : u < lo % n → OwnSlot n u lo
    far lt =
        let e : lo % n + ((n - lo % n) + u) ≡ n + u = omega (arith, r) in
        record {
          at = lo + ((n - lo % n) + u);
          low = omega arith;
          high = omega (arith, r);
          owner = sym (mod-add-mod lo n ((n - lo % n) + u)) ∙ ap (λ (k : ℕ). k % n) e ∙ add-mod_left n u ∙ mod-eq_of_lt h;
        }

-- two slots less than n apart have two owners
pub once : (n j k : ℕ) → j < k → k < j + n → k % n ≡ j % n → ⊥
once n j k lo hi same =
    ⊎_elim
    (λ e. wraps (leb-true n (j % n + (k - j)) e))
    (λ e. stays (leb-false n (j % n + (k - j)) e))
    (both (leb n (j % n + (k - j))))
  where
    r : j % n < n
    r = mod-lt j (omega arith)

    sum : (j % n + (k - j)) % n ≡ k % n
    sum = mod-add-mod j n (k - j) ∙ ap (λ (m : ℕ). m % n) (omega arith)

    stays : j % n + (k - j) < n → ⊥
    stays h = omega (arith, sum, mod-eq_of_lt h)

    wraps : n ≤ j % n + (k - j) → ⊥
    wraps h =
        let d : (j % n + (k - j)) - n < n = omega (arith, r) in
        omega (arith, sum, r, mod-eq-sub-mod h, mod-eq_of_lt d)
