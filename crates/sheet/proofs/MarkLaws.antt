-- What a mark without an offence keeps to, which offences a mark can have, and the mark on a line after those on
-- the lines before it, specs/Marks.antt. Assumes nothing.
use mathlib.Core.Path.{◌≡◌, refl, sym, ap, ◌∙◌}
use mathlib.Core.Bool.{Bool, true, false, cond}
use mathlib.Core.List.{List, [], ◌∷◌}
use mathlib.Core.Option.{Option, none, some}
use Prim.Native.Nat.{ℕ, ◌-◌, ◌<◌}
use native.Mathlib.Omega.{arith}
use lib.ListN.{length, get_or, set, take}
use lib.Dec.{ltb}
use borrow.Author.Tests.{ltb-true}
use Rattle.std.proofs.lemmas.List.{get_or-take}
use Rattle.limits.specs.Limits.{slots_most}
use Rattle.lists.proofs.Tests.{and-true}
use Rattle.limits.specs.declared.Refusal.{Refusal}
use Rattle.limits.specs.declared.Refusal.TheVariants.{OutsideLimits, MarkNotAbove, WrongMark}
use Rattle.sheet_lines.specs.Found.{Found, found, offence, and_then}
use Rattle.sheet.specs.Inside.{offence_after, next_mark, entered}
use Rattle.sheet.specs.Marks.{no_mark, mark_within, ascends, allowed, mark_offence, on_option, fields_at, mark_line}
use Rattle.sheet.specs.declared.Mark.{Mark}

-- a mark without an offence keeps to all that a mark must keep to
pub record Kept (n k : ℕ) (last m : Mark) : Type 0 where
  pub time : m.time < slots_most
  pub seat : m.seat < n
  pub above : ascends k last m ≡ true
  pub allows : allowed n m ≡ true

pub good_mark : (n k : ℕ) (last m : Mark) → mark_offence n k last m ≡ none → Kept n k last m
unfolding mark_offence
good_mark n k last m e = go (mark_within n m) (ascends k last m) (allowed n m) refl refl refl e
  where
    go : (a b c : Bool) → mark_within n m ≡ a → ascends k last m ≡ b → allowed n m ≡ c
        → cond a (cond b (cond c none (some WrongMark)) (some MarkNotAbove)) (some OutsideLimits) ≡ none → Kept n k last m
    go true true true p q r h =
        let b = and-true (ltb m.time slots_most) (ltb m.seat n) p in
        record { time = ltb-true _ _ b.0; seat = ltb-true _ _ b.1; above = q; allows = r }
    go true true false p q r h = absurd (cc)
    go true false c p q r h = absurd (cc)
    go false b c p q r h = absurd (cc)

-- what is true of the three offences of a mark is true of the one it has
pub mark_offence_lem : (of : Refusal → Bool) → of OutsideLimits ≡ true → of MarkNotAbove ≡ true → of WrongMark ≡ true → (n k : ℕ) (last m : Mark) (why : Refusal)
    → mark_offence n k last m ≡ some why → of why ≡ true
unfolding mark_offence
mark_offence_lem of x y z n k last m why e = go (mark_within n m) (ascends k last m) (allowed n m) e
  where
    go : (a b c : Bool) → cond a (cond b (cond c none (some WrongMark)) (some MarkNotAbove)) (some OutsideLimits) ≡ some why → of why ≡ true
    go true true true h = absurd (cc)
    go true true false h = let q : WrongMark ≡ why = cc in rw (← q) z
    go true false c h = let q : MarkNotAbove ≡ why = cc in rw (← q) y
    go false b c h = let q : OutsideLimits ≡ why = cc in rw (← q) x

-- ---- the mark on a line, after those on the lines before it

offence_same : (n : ℕ) (before earlier : List Mark) (m : Mark) → take (length earlier) before ≡ earlier
    → mark_offence n (length earlier) (get_or before (length earlier - 1) no_mark) m ≡ offence_after n earlier m
unfolding mark_offence
offence_same n before [] m e = refl
offence_same n before (x ∷ xs) m e =
    let k = length (x ∷ xs) in
    let l : get_or before (k - 1) no_mark ≡ get_or (x ∷ xs) (k - 1) no_mark =
    sym (get_or-take k before (k - 1) no_mark (omega arith)) ∙ ap (λ (l : List Mark). get_or l (k - 1) no_mark) e in
    ap (λ last. mark_offence n k last m) l

pub mark_entered : (n : ℕ) (s : List ℕ) (at : ℕ) (earlier before : List Mark) (one : Found Mark) → take (length earlier) before ≡ earlier
    → one ≡ next_mark n earlier s at → mark_line n s at (length earlier) before ≡ entered before (length earlier) one
unfolding mark_line next_mark
mark_entered n s at earlier before one e q = go (fields_at s at) ∙ ap (λ x. entered before (length earlier) x) (sym q)
  where
    k : ℕ
    k = length earlier

    more : (o : Option Refusal) (m : Mark) (next : ℕ) → on_option o (found (set before k m) next) (λ why. offence why at) ≡ entered before k (on_option o (found m next) (λ why. offence why at))
    more none m next = refl
    more (some why) m next = refl

    go : (x : Found Mark)
        → and_then x (λ m next. on_option (mark_offence n k (get_or before (k - 1) no_mark) m) (found (set before k m) next) (λ why. offence why at))
        ≡ entered before k (and_then x (λ m next. on_option (offence_after n earlier m) (found m next) (λ why. offence why at)))
    go (found m next) = rw (offence_same n before earlier m e) (more (offence_after n earlier m) m next)
    go (offence why place) = refl
