-- `first_failing`: by what the search finds. Assumes nothing.
use Rattle.std.proofs.Common.{◌≡◌, ℕ, ◌<◌, ◌≤◌, Option, List, length, true, Some, cond, sym, ap, ◌∙◌, rules, arith, take}
use borrow.Author.Tests.{le-leb}
use Rattle.limits.specs.Limits.{seats_stand}
use Rattle.lists.proofs.Tests.{and_of}
use Rattle.terms.specs.Search.{first_found}
use Rattle.terms.specs.Terms.{first_failing}
use Rattle.terms.proofs.Found.{firsts, slice_is, none_found, one_found}
use Rattle.terms.proofs.first_failing.Goals as goal

module _ (n : ℕ) (faults : List (Option ℕ)) (time : ℕ) (two : 2 ≤ n) (most : n ≤ 32) (room : length faults ≡ 32) where
  stand : seats_stand n ≡ true
  stand = and_of (le-leb 2 n two) (le-leb n 32 most)

  slice : take n faults ≡ firsts n faults
  slice = slice_is n faults (omega arith)

  by_time : (m : ℕ) → first_found (take n faults) ≡ Some m → m < time → m ≡ cond (seats_stand n) (first_failing n faults time) time
  by_time m e l = rw stand (sym (one_found n faults two time m (ap first_found (sym slice) ∙ e) l))

  later : ((m : ℕ) → first_found (take n faults) ≡ Some m → time ≤ m) → time ≡ cond (seats_stand n) (first_failing n faults time) time
  later h = rw stand (sym (none_found n faults two time (λ m e. h m (ap first_found slice ∙ e))))

pub returns-in-Some : goal.returns-in-Some
returns-in-Some c =
    let a = c.args in
    by_time a.n a.faults a.time (search rules) (search rules) (omega arith) c.in-Some.found (sym c.first_found.ensures ∙ c.in-Some.is) c.if-found-time.true

pub returns-in_default : goal.returns-in_default
returns-in_default c =
    let a = c.args in
    later a.n a.faults a.time (search rules) (search rules) (omega arith)
    (λ m e. let q : c.in-Some.found ≡ m = cc (c.first_found.ensures, c.in-Some.is, e) in omega (arith, c.if-found-time.false))

pub returns-in_default-2 : goal.returns-in_default-2
returns-in_default-2 c =
    let a = c.args in
    later a.n a.faults a.time (search rules) (search rules) (omega arith) (λ m e. absurd (cc (c.first_found.ensures, c.in_default.is, e)))
