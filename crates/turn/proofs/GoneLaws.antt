-- What a removal takes from a set: those whom it names and no other, and how many they are. Assumes nothing.
use mathlib.Core.Path.{◌≡◌, refl, sym, ap, ◌∙◌}
use mathlib.Core.Bool.{Bool, true, false, not, ◌&&◌, and-true}
use mathlib.Core.List.{List, [], ◌∷◌}
use Prim.Native.Nat.{ℕ, ◌≤◌}
use native.Mathlib.Nat.{le_refl}
use native.Mathlib.Omega.{arith}
use lib.Dec.{eqb}
use lib.ListN.{length}
use Rattle.seats.specs.Sets.{has_seat, without_seat}
use Rattle.seats.proofs.Sets.{without_le, without_has}
use Rattle.turn.specs.Table.{Gone, gone_by, count_of, without_all}
use Rattle.turn.specs.declared.Removal.{Removal}
use Rattle.turn.specs.declared.Removal.TheVariants.{Nobody, Itself, Owner, Both}

pub without_all_le : (set : ℕ) (gs : List Gone) → without_all set gs ≤ set
without_all_le set [] = le_refl set
without_all_le set (g ∷ more) = omega (arith, without_all_le (without_seat set g.seat) more, without_le set g.seat)

-- whether a removal takes the seat itself, and whether it takes the owner
abbrev pub takes_itself : Removal → Bool
takes_itself Nobody = false
takes_itself (Itself c) = true
takes_itself (Owner c) = false
takes_itself (Both c d) = true

abbrev pub takes_owner : Removal → Bool
takes_owner Nobody = false
takes_owner (Itself c) = false
takes_owner (Owner c) = true
takes_owner (Both c d) = true

pub gone_has : (set p b q : ℕ) (k : Removal)
    → has_seat (without_all set (gone_by p b k)) q ≡ (has_seat set q && not (takes_itself k && eqb q p) && not (takes_owner k && eqb q b))
gone_has set p b q Nobody = rw (and-true (has_seat set q), and-true (has_seat set q))
gone_has set p b q (Itself c) = without_has set p q ∙ sym (and-true _)
gone_has set p b q (Owner c) = without_has set b q ∙ sym (ap (λ (x : Bool). x && not (eqb q b)) (and-true (has_seat set q)))
gone_has set p b q (Both c d) = without_has (without_seat set p) b q ∙ ap (λ (x : Bool). x && not (eqb q b)) (without_has set p q)

-- ---- how many a removal takes

pub count_is : (p b : ℕ) (k : Removal) → length (gone_by p b k) ≡ count_of k
count_is p b Nobody = refl
count_is p b (Itself c) = refl
count_is p b (Owner c) = refl
count_is p b (Both c d) = refl

pub count_few : (k : Removal) → count_of k ≤ 2
count_few Nobody = omega arith
count_few (Itself c) = omega arith
count_few (Owner c) = omega arith
count_few (Both c d) = omega arith
