-- The verdict on a ring whose terms hold. Assumes nothing.
use mathlib.Core.Path.{◌≡◌}
use mathlib.Core.Bool.{true}
use Prim.Native.Nat.{ℕ, ◌≤◌}
use borrow.Author.Tests.{le-ltb}
use Rattle.limits.specs.Limits.{room_most}
use Rattle.terms.specs.Terms.{first_failing}
use Rattle.ring.specs.Ring.{is_ring}
use Rattle.ring.specs.Refusals.{within, verdict_found}
use Rattle.ring.specs.declared.Ring.{Ring}

-- where they fail at no step before the time, they hold up to the last step
pub terms_within : (r : Ring) → is_ring r room_most ≡ true → (t : ℕ) → first_failing r.n r.faults r.time ≡ t → r.time ≤ t → verdict_found r ≡ within
unfolding verdict_found
terms_within r e t f l = rw (e, f, le-ltb t r.time l)
