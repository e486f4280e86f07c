-- Laws of the sets of specs/Joined.antt, and of the machine's `or` of two masks: who is in them. Assumes nothing.
use mathlib.Core.Path.{◌≡◌, sym, ap, ◌∙◌}
use mathlib.Core.Bool.{Bool, true, false, ◌&&◌, or-false, and-true, ◌||◌}
use mathlib.Core.Logic.{⊎_elim}
use Prim.Native.Nat.{ℕ, zero, suc, ◌+◌, ◌*◌, ◌/◌, ◌%◌, ◌^◌, ◌<◌, max}
use native.Mathlib.Nat.{pow-suc}
use native.Mathlib.Omega.{arith}
use lib.Dec.{eqb}
use lib.Pow.{pow-lt}
use lib.Bits.{bit_or, or_step, or_shr, or_lt, or_shifted_r}
use borrow.Author.Tests.{eqb-true, eqb-false, eq-eqb, ne_eqb}
use Rattle.lists.proofs.Counted.{below_last}
use Rattle.lists.proofs.Tests.{both, and-false}
use Rattle.seats.specs.Sets.{has_seat}
use Rattle.seats.specs.Joined.{added, seats_with}
use Rattle.seats.proofs.Sets.{none_past, has_one}

-- ---- two sets in one

digit_or : (a b j : ℕ) → bit_or a b / 2 ^ j % 2 ≡ max (a / 2 ^ j % 2) (b / 2 ^ j % 2)
digit_or a b j = ap (λ (x : ℕ). x % 2) (or_shr a b j) ∙ let e = or_step (a / 2 ^ j) (b / 2 ^ j) in omega arith

pub has_or : (a b j : ℕ) → has_seat (bit_or a b) j ≡ (has_seat a j || has_seat b j)
has_or a b j =
    let e = digit_or a b j in
    ⊎_elim
    (λ p. let x = eqb-true (a / 2 ^ j % 2) 1 p in rw p (eq-eqb (bit_or a b / 2 ^ j % 2) 1 (omega arith)))
    (λ p.
    let x = eqb-false (a / 2 ^ j % 2) 1 p in
    ⊎_elim
    (λ q. let y = eqb-true (b / 2 ^ j % 2) 1 q in rw (p, q) (eq-eqb (bit_or a b / 2 ^ j % 2) 1 (omega arith)))
    (λ q. let y = eqb-false (b / 2 ^ j % 2) 1 q in rw (p, q) (ne_eqb (bit_or a b / 2 ^ j % 2) 1 (omega arith)))
    (both (has_seat b j)))
    (both (has_seat a j))

-- ---- a seat added where that is so

pub has_added : (set j : ℕ) (so : Bool) (p : ℕ) → has_seat (added set j so) p ≡ (has_seat set p || (so && eqb p j))
has_added set j true p = has_or set (2 ^ j) p ∙ ap (λ (b : Bool). has_seat set p || b) (has_one j p)
has_added set j false p = sym (or-false (has_seat set p))

pub added_below : (n set j : ℕ) (so : Bool) → set < 2 ^ n → j < n → added set j so < 2 ^ n
added_below n set j true l h = or_lt n set (2 ^ j) l (pow-lt h)
added_below n set j false l h = l

-- ---- the seats that pass a test

module _ (test : ℕ → Bool) where
  pub with_below : (n : ℕ) → seats_with n test < 2 ^ n
  with_below zero = omega arith
  with_below (suc k) =
      let h = with_below k in
      let e = pow-suc 2 k in
      ⊎_elim (λ p. rw p (omega arith)) (λ p. rw p (omega arith)) (both (test k))

  one_more : (k : ℕ) → seats_with (suc k) test ≡ added (seats_with k test) k (test k)
  one_more k =
      let s = seats_with k test in
      let h = or_shifted_r 1 k s (with_below k) in
      let u : 1 * 2 ^ k ≡ 2 ^ k = omega arith in
      let w : bit_or s (2 ^ k) ≡ s + 2 ^ k = ap (bit_or s) (sym u) ∙ omega arith in
      ⊎_elim (λ p. rw p (sym w)) (λ p. rw p (omega arith)) (both (test k))

  pub has_with : (n p : ℕ) → p < n → has_seat (seats_with n test) p ≡ test p
  has_with zero p l = absurd (omega arith)
  has_with (suc k) p l =
      let s = seats_with k test in
      ap (λ (x : ℕ). has_seat x p) (one_more k)
      ∙ has_added s k (test k) p
      ∙ ⊎_elim
      (λ h. rw (ne_eqb p k (omega arith), and-false (test k), or-false (has_seat s p)) (has_with k p h))
      (λ e. rw (none_past s k p (with_below k) (omega arith), eq-eqb p k e, and-true (test k)) (ap test (sym e)))
      (below_last p k l)
