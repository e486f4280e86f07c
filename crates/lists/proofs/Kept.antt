-- A number that there may not be, and the one number that it is kept as (specs/Kept.antt). Assumes nothing.
use mathlib.Core.Path.{◌≡◌, refl, ap}
use mathlib.Core.Bool.{true, false≢true}
use Prim.Native.Nat.{ℕ, ◌+◌}
use native.Mathlib.Omega.{arith}
use Rattle.std.specs.Prelude.{Option, None, Some, is_none}
use Rattle.lists.specs.Kept.{kept}

pub none_is : (o : Option ℕ) → is_none o ≡ true → o ≡ None
none_is None e = refl
none_is (Some t) e = absurd (false≢true e)

pub kept_none : (o : Option ℕ) → is_none o ≡ true → kept o ≡ 0
kept_none o e = ap kept (none_is o e)

pub none_kept : (o : Option ℕ) → kept o ≡ 0 → is_none o ≡ true
none_kept None e = refl
none_kept (Some t) e = absurd (omega arith)

pub some_kept : (o : Option ℕ) (t : ℕ) → kept o ≡ t + 1 → o ≡ Some t
some_kept None t e = absurd (omega arith)
some_kept (Some u) t e = ap Some (omega arith)
