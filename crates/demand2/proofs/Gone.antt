-- What a removal takes from a set: those whom it names and no other, each once. Assumes nothing.
use mathlib.Core.Path.{◌≡◌, refl, sym, ap, ap₂, ◌∙◌}
use mathlib.Core.Bool.{Bool, true, false, not, ◌&&◌, and-not_self, false≢true}
use mathlib.Core.List.{List, [], ◌∷◌}
use mathlib.Core.Logic.{⊎_elim}
use Prim.Native.Nat.{ℕ, ◌+◌, ◌<◌}
use native.Mathlib.Nat.{add-zero, zero-add}
use native.Mathlib.Omega.{arith}
use lib.Dec.{eqb}
use lib.ListN.{length}
use borrow.Author.Tests.{eqb-true, eqb-false, eq-eqb}
use Rattle.lists.proofs.Tests.{both}
use Rattle.seats.specs.Sets.{has_seat, without_seat, size_of}
use Rattle.seats.proofs.Sets.{without_same, without_other, without_in, without_size}
use Rattle.turn.specs.Table.{decided, Gone, gone, gone_by, without_all}
use Rattle.turn.specs.Turn.{view_of, turn_of}
use Rattle.turn.specs.declared.Seat.{Seat}
use Rattle.turn.specs.declared.Slot.{Slot}
use Rattle.turn.specs.declared.Cause.TheVariants.{A}
use Rattle.turn.specs.declared.Removal.{Removal}
use Rattle.turn.specs.declared.Removal.TheVariants.{Nobody, Itself, Owner, Both}
use Rattle.turn.proofs.TurnLaws.{turn_elim}
use Rattle.demand2.specs.Records.{tells_of}
use Rattle.demand2.specs.Story.{left}
use Rattle.trail.specs.Trail.{record_of, records_of}
use Rattle.demand2.proofs.Tally.{one, tally}

-- ---- how many it takes

module _ (set p b : ℕ) (lp : p < 32) (lb : b < 32) (apart : p ≡ b → ⊥) (hp : has_seat set p ≡ true) (hb : has_seat set b ≡ true) where
  gone_size : (k : Removal) → size_of (without_all set (gone_by p b k)) + length (gone_by p b k) ≡ size_of set
  gone_size Nobody = add-zero (size_of set)
  gone_size (Itself c) = without_size set p lp hp
  gone_size (Owner c) = without_size set b lb hb
  gone_size (Both c d) =
      let e = without_size set p lp hp in
      let f = without_size (without_seat set p) b lb (without_other set p b (λ q. apart (sym q)) ∙ hb) in
      omega arith

-- a turn takes one member for each removal
pub turn_size : (c : Slot) (p : ℕ) (s : Seat) → p < 32 → c.owner < 32
    → size_of (turn_of c p s).seat.set + length (gone_by p c.owner (turn_of c p s).removal) ≡ size_of s.set
turn_size c p s lp lb =
    turn_elim c p s (λ t. size_of t.seat.set + length (gone_by p c.owner t.removal) ≡ size_of s.set)
    (λ h. add-zero (size_of s.set))
    (λ h e. add-zero (size_of s.set))
    (λ h n g. gone_size s.set p c.owner lp lb n h g (decided (view_of c p) s.ack s.doubt).removal)
    (λ h n g. add-zero (size_of s.set))

-- ---- whom it takes

pub left_same : (set q : ℕ) → left set set q ≡ false
left_same set q = and-not_self (has_seat set q)

left_one : (set j q : ℕ) → has_seat set j ≡ true → left set (without_seat set j) q ≡ eqb j q
left_one set j q h =
    ⊎_elim
    (λ e.
    let i = eqb-true j q e in
    let x : has_seat set q ≡ true = ap (has_seat set) (sym i) ∙ h in
    let y : has_seat (without_seat set j) q ≡ false = ap (has_seat (without_seat set j)) (sym i) ∙ without_same set j in
    ap₂ (λ (a b : Bool). a && not b) x y ∙ sym e)
    (λ e.
    let n = eqb-false j q e in
    let y = without_other set j q (λ i. n (sym i)) in
    ap (λ (b : Bool). has_seat set q && not b) y ∙ left_same set q ∙ sym e)
    (both (eqb j q))

-- who has left by two removals has left by one of them
left_step : (set mid after q : ℕ) → (has_seat mid q ≡ true → has_seat set q ≡ true) → (has_seat after q ≡ true → has_seat mid q ≡ true)
    → one (left set after q) ≡ one (left set mid q) + one (left mid after q)
left_step set mid after q f g = go (has_seat set q) (has_seat mid q) (has_seat after q) f g
  where
    go : (a b c : Bool) → (b ≡ true → a ≡ true) → (c ≡ true → b ≡ true) → one (a && not c) ≡ one (a && not b) + one (b && not c)
    go true true true f g = refl
    go true true false f g = refl
    go true false true f g = absurd (false≢true (g refl))
    go true false false f g = refl
    go false true true f g = absurd (false≢true (f refl))
    go false true false f g = absurd (false≢true (f refl))
    go false false true f g = refl
    go false false false f g = refl

-- each seat that leaves is told of once, and no other is
module _ (time set p b q : ℕ) (apart : p ≡ b → ⊥) (hp : has_seat set p ≡ true) (hb : has_seat set b ≡ true) where
  told_one : (j : ℕ) → one (tells_of p q (record_of time p (gone j A))) ≡ one (eqb j q)
  told_one j = ap (λ (x : Bool). one (x && eqb j q)) (eq-eqb p p refl)

  gone-left : (k : Removal) → tally (tells_of p q) (records_of time p (gone_by p b k)) ≡ one (left set (without_all set (gone_by p b k)) q)
  gone-left Nobody = sym (ap one (left_same set q))
  gone-left (Itself c) = zero-add _ ∙ told_one p ∙ sym (ap one (left_one set p q hp))
  gone-left (Owner c) = zero-add _ ∙ told_one b ∙ sym (ap one (left_one set b q hb))
  gone-left (Both c d) =
      let mid = without_seat set p in
      let x = told_one p in
      let y = told_one b in
      let u = ap one (left_one set p q hp) in
      let v = ap one (left_one mid b q (without_other set p b (λ i. apart (sym i)) ∙ hb)) in
      let w = left_step set mid (without_seat mid b) q (without_in set p q) (without_in mid b q) in
      omega arith

pub turn_left : (time : ℕ) (c : Slot) (p q : ℕ) (s : Seat)
    → tally (tells_of p q) (records_of time p (gone_by p c.owner (turn_of c p s).removal)) ≡ one (left s.set (turn_of c p s).seat.set q)
turn_left time c p q s =
    turn_elim c p s (λ t. tally (tells_of p q) (records_of time p (gone_by p c.owner t.removal)) ≡ one (left s.set t.seat.set q))
    (λ h. sym (ap one (left_same s.set q)))
    (λ h e. sym (ap one (left_same s.set q)))
    (λ h n g. gone-left time s.set p c.owner q n h g (decided (view_of c p) s.ack s.doubt).removal)
    (λ h n g. sym (ap one (left_same s.set q)))

-- ---- a set never gains a member

all_within : (set q : ℕ) (gs : List Gone) → has_seat (without_all set gs) q ≡ true → has_seat set q ≡ true
all_within set q [] h = h
all_within set q (g ∷ more) h = without_in set g.seat q (all_within (without_seat set g.seat) q more h)

pub turn_within : (c : Slot) (p q : ℕ) (s : Seat) → has_seat (turn_of c p s).seat.set q ≡ true → has_seat s.set q ≡ true
turn_within c p q s =
    turn_elim c p s (λ t. has_seat t.seat.set q ≡ true → has_seat s.set q ≡ true)
    (λ h k. k)
    (λ h e k. k)
    (λ h n g. all_within s.set q (gone_by p c.owner (decided (view_of c p) s.ack s.doubt).removal))
    (λ h n g k. k)
