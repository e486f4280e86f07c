-- What a chain of the library over the numbers below n comes to, where its closure is a test. Assumes nothing.
use mathlib.Core.Path.{◌≡◌, sym, ap, ◌∙◌}
use mathlib.Core.Bool.{Bool, true, false}
use mathlib.Core.List.{List}
use Prim.Native.Nat.{ℕ, ◌<◌}
use native.Mathlib.Omega.{arith}
use denote.Param.Members.{Mut}
use lib.ListN.{length, get_or}
use Rattle.std.proofs.iter.Yields.{nat_range_steps}
use Rattle.std.proofs.lemmas.Iterator.{cases_from_all, YieldsList-from_range}
use Rattle.std.proofs.lemmas.List.FromFn.{get_or-range_with_len, length-range_with_len}
use Rattle.std.specs.Bool.{MatchBool}
use Rattle.std.specs.declared.ops.Range.{Range}
use Rattle.std.specs.Fn.{Called}
use Rattle.std.specs.Iterator.{YieldsThen}
use Rattle.std.specs.List.{range_with_len, FoldsTo, AllWithin, HoldsAt}
use Rattle.std.specs.Option.{MatchOption}
use Rattle.std.specs.Prelude.{Option}
use Rattle.lists.specs.Counted.{all_below}
use Rattle.lists.proofs.Tests.{all_from, all_fails}

module _ (n : ℕ) (test : ℕ → Bool) where
  at_k : (k : ℕ) → k < n → get_or (range_with_len 0 n) k 0 ≡ k
  at_k k l = get_or-range_with_len 0 n k 0 l ∙ omega arith

  decided : (r : Bool)
      → MatchBool r (AllWithin (λ x. test x ≡ true) (range_with_len 0 n) 0 (length (range_with_len 0 n))) ((k : ℕ) × (k < length (range_with_len 0 n)) × HoldsAt (λ x. test x ≡ false) (range_with_len 0 n) k)
      → r ≡ all_below n test
  decided true h = sym (all_from test n (λ p l. ap test (sym (at_k p l)) ∙ h p 0 (omega arith) (omega (arith, length-range_with_len 0 n))))
  decided false h =
      let l : h.0 < n = omega (arith, h.1, length-range_with_len 0 n) in
      sym (all_fails test n h.0 l (ap test (sym (at_k h.0 l)) ∙ h.2 0))

  -- `all`: every number below n passes the test
  pub all_range : {F : Type 0} {g : Mut F (ℕ × Unit {0}) Bool} {s : Range ℕ} (u : Range ℕ) (f : F) (r : Bool)
      → (xs : List ℕ) × (o : Option ℕ) × (j : F) × YieldsThen nat_range_steps s xs o u × FoldsTo (λ p x q. Called g p (x, tt) true q) f xs j
      × MatchOption o (r ≡ true) (λ x. (r ≡ false) × ((h : F) × Called g j (x, tt) false h))
      → s ≡ record { start = 0; end = n }
      → ((x : ℕ) (q : F) → Called g f (x, tt) true q → (q ≡ f) × (test x ≡ true))
      → ((x : ℕ) (q : F) → Called g f (x, tt) false q → test x ≡ false)
      → r ≡ all_below n test
  all_range u f r ran whole passes fails =
      decided r (cases_from_all u f r (λ x. test x ≡ true) (λ x. test x ≡ false) ran (YieldsList-from_range 0 n n whole (omega arith)) passes fails)
