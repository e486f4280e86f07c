-- Laws of entries, specs/Entries.antt: one law set for the lines of all three sections. Assumes nothing.
use mathlib.Core.Path.{◌≡◌, sym, ap, ◌∙◌}
use mathlib.Core.Bool.{true, false, not}
use mathlib.Core.List.{List}
use Prim.Native.Nat.{ℕ, suc, ◌+◌, ◌-◌, ◌<◌, ◌≤◌}
use native.Mathlib.Omega.{arith}
use lib.ListN.{length, get_or, take}
use lib.Dec.{eqb}
use borrow.Author.Tests.{eq-eqb, ne_eqb}
use denote.Ref.{Bor}
use Rattle.std.proofs.Common.{Result}
use Rattle.std.proofs.lemmas.List.{length-take-le}
use Rattle.lists.proofs.Tests.{all_from, all_fails}
use Rattle.limits.specs.declared.Refusal.{Refusal}
use Rattle.limits.specs.declared.Refused.{Refused}
use Rattle.sheet_lines.specs.Found.{Found, found, offence}
use Rattle.sheet_lines.specs.Pieces.{found_of}
use Rattle.sheet.specs.Entries.{lines_at, is_new}
use Rattle.sheet.specs.Inside.{entered, Enters}

-- ---- a line that is read, after the entries before it

module _ {A : Type 0} (reads : Bor (List A) → ℕ → Result (A × ℕ) Refused → Type 0) (line : ℕ → ℕ → List A → Found (List A)) where
  pub enters_at : Enters reads line → (earlier : Bor (List A)) (at : ℕ) (r : Result (A × ℕ) Refused) → reads earlier at r
      → (k : ℕ) (before : List A) → earlier.now ≡ take k before → k ≤ length before → line at k before ≡ entered before k (found_of r)
  enters_at h earlier at r m k before e l =
      let n : length earlier.now ≡ k = ap length e ∙ length-take-le k before l in
      let q : take (length earlier.now) before ≡ earlier.now = ap (λ i. take i before) n ∙ sym e in
      ap (λ i. line at i before) (sym n) ∙ h earlier at r m before q ∙ ap (λ i. entered before i (found_of r)) n

-- ---- module numbers that are new

pub is_new_lem : (number k : ℕ) (modules : List ℕ) → ((j : ℕ) → j < k → get_or modules j 0 ≡ number → ⊥) → is_new number k modules ≡ true
unfolding is_new
is_new_lem number k modules h = all_from (λ j. not (eqb (get_or modules j 0) number)) k (λ j l. ap not (ne_eqb (get_or modules j 0) number (h j l)))

pub not_new : (number k : ℕ) (modules : List ℕ) (j : ℕ) → j < k → get_or modules j 0 ≡ number → is_new number k modules ≡ false
unfolding is_new
not_new number k modules j l e = all_fails (λ j. not (eqb (get_or modules j 0) number)) k j l (ap not (eq-eqb (get_or modules j 0) number e))

-- ---- so many lines

module _ {S : Type 0} (line : ℕ → ℕ → S → Found S) (count start : ℕ) (none : S) where
  -- a loop's invariant: k of the lines are read, and what is left comes to the same as all did
  pub record Reached (at k : ℕ) (entries : S) : Type 0 where
    pub few : k ≤ count
    pub same : (more : ℕ) → more + k ≡ count → lines_at line more at k entries ≡ lines_at line count start 0 none

  pub begins : Reached start 0 none
  begins = record { few = omega arith; same = λ more e. let q : more ≡ count = omega arith in rw q }

  module _ (at k : ℕ) (entries : S) (r : Reached at k entries) where
    pub goes_on : k < count → (entries' : S) (next : ℕ) → line at k entries ≡ found entries' next → Reached next (k + 1) entries'
    unfolding lines_at
    goes_on h entries' next e =
        record {
          few = omega arith;
          same = λ more q.
              (let u : lines_at line (suc more) at k entries ≡ lines_at line more next (k + 1) entries' = rw e in sym u)
              ∙ r.same (suc more) (omega arith);
        }

    pub stops : k < count → (why : Refusal) (place : ℕ) → line at k entries ≡ offence why place → lines_at line count start 0 none ≡ offence why place
    unfolding lines_at
    stops h why place e =
        let u : lines_at line (suc (count - suc k)) at k entries ≡ offence why place = rw e in
        sym (r.same (suc (count - suc k)) (omega arith)) ∙ u

    pub ends : count ≤ k → lines_at line count start 0 none ≡ found entries at
    unfolding lines_at
    ends h = sym (r.same 0 (let f = r.few in omega arith))
