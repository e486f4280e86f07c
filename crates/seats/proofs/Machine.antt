-- The machine's own operations on a mask are those of specs/Sets.antt. Assumes nothing.
use mathlib.Core.Path.{◌≡◌, sym, ap, ap₂, ◌∙◌}
use mathlib.Core.Logic.{⊎_elim}
use Prim.Native.Nat.{ℕ, zero, suc, ◌+◌, ◌-◌, ◌*◌, ◌/◌, ◌%◌, ◌^◌, ◌<◌, min}
use native.Mathlib.Nat.{pow-suc, mod-eq_of_lt}
use native.Mathlib.Omega.{arith}
use lib.Dec.{eqb}
use lib.Pow.{pow_pos, pow-lt, shl_exact}
use lib.Bits.{bit_and, and_step, and_mask}
use borrow.Author.Tests.{eqb-true, eqb-false}
use Rattle.lists.proofs.Tests.{both}
use Rattle.seats.specs.Sets.{has_seat, without_seat}
use Rattle.seats.proofs.Digits.{digit_zero, digit_suc, digit_le, half_less, odd_less}
pub use Rattle.seats.proofs.Digits.{ones_in_lem}
use Rattle.seats.proofs.Sets.{without_is, without_none}

-- 1 shifted by less than the width is the power
pub one_shifted : (j : ℕ) → j < 32 → (1 * 2 ^ j) % 2 ^ 32 ≡ 2 ^ j
one_shifted j h = shl_exact 1 j 32 (omega arith) (omega arith) ∙ omega arith

-- a removal, one digit down
without_zero : (s : ℕ) → without_seat s 0 ≡ s / 2 * 2
without_zero s =
    let b = digit_zero s in
    ⊎_elim
    (λ h. let e = eqb-true (s / 2 ^ 0 % 2) 1 h in omega (arith, without_is s 0 h))
    (λ h. let n = eqb-false (s / 2 ^ 0 % 2) 1 h in omega (arith, without_none s 0 h))
    (both (has_seat s 0))

without_suc : (s j : ℕ) → without_seat s (suc j) ≡ without_seat (s / 2) j * 2 + s % 2
without_suc s j =
    let d : has_seat (s / 2) j ≡ has_seat s (suc j) = ap (λ (x : ℕ). eqb x 1) (sym (digit_suc s j)) in
    ⊎_elim
    (λ h.
    let l = digit_le s (suc j) (eqb-true _ _ h) in
    let e = half_less s j in
    let o = odd_less s j l in
    omega (arith, without_is s (suc j) h, without_is (s / 2) j (d ∙ h)))
    (λ h. omega (arith, without_none s (suc j) h, without_none (s / 2) j (d ∙ h)))
    (both (has_seat s (suc j)))

-- a mask and-ed with all digits but one
pub and_all_but : (k s j : ℕ) → s < 2 ^ k → j < k → bit_and s ((2 ^ k - 1) - 2 ^ j) ≡ without_seat s j
and_all_but zero s j h l = absurd (omega arith)
and_all_but (suc k) s zero h l =
    let p = pow-suc 2 k in
    let q = pow_pos k in
    let f : ((2 ^ suc k - 1) - 1) / 2 ≡ 2 ^ k - 1 = omega arith in
    let g : ((2 ^ suc k - 1) - 1) % 2 ≡ 0 = omega arith in
    let m : bit_and (s / 2) (2 ^ k - 1) ≡ s / 2 = and_mask (s / 2) k ∙ mod-eq_of_lt {n = s / 2} {m = 2 ^ k} (omega arith) in
    and_step s ((2 ^ suc k - 1) - 1)
    ∙ ap₂ (λ (x y : ℕ). bit_and (s / 2) x * 2 + min (s % 2) y) f g
    ∙ ap (λ (x : ℕ). x * 2 + min (s % 2) 0) m
    ∙ let z = without_zero s in omega arith
and_all_but (suc k) s (suc j) h l =
    let p = pow-suc 2 k in
    let r = pow-suc 2 j in
    let q = pow-lt {i = j} {j = k} (omega arith) in
    let f : ((2 ^ suc k - 1) - 2 ^ suc j) / 2 ≡ (2 ^ k - 1) - 2 ^ j = omega arith in
    let g : ((2 ^ suc k - 1) - 2 ^ suc j) % 2 ≡ 1 = omega arith in
    and_step s ((2 ^ suc k - 1) - 2 ^ suc j)
    ∙ ap₂ (λ (x y : ℕ). bit_and (s / 2) x * 2 + min (s % 2) y) f g
    ∙ ap (λ (x : ℕ). x * 2 + min (s % 2) 1) (and_all_but k (s / 2) j (omega arith) (omega arith))
    ∙ let z = without_suc s j in omega arith
