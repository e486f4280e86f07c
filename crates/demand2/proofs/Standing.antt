-- What each entry of a step says, and how the entries stand. Assumes nothing.
use mathlib.Core.Path.{◌≡◌, refl, sym, ◌∙◌, subst}
use mathlib.Core.Bool.{Bool, true, false}
use mathlib.Core.List.{List, [], ◌∷◌}
use mathlib.Core.Logic.{inl, inr}
use Prim.Native.Nat.{ℕ, zero, suc, ◌<◌}
use native.Mathlib.Omega.{arith}
use Rattle.lists.specs.Counted.{joined}
use Rattle.lists.proofs.Each as each
use Rattle.seats.specs.Sets.{has_seat}
use Rattle.ring.specs.Ring.{seat_of}
use Rattle.turn.specs.Table.{table, arrived, bit_of, Gone, gone, gone_by}
use Rattle.turn.specs.Turn.{view_of}
use Rattle.ring.specs.Step.{gone_at}
use Rattle.ring.specs.declared.Ring.{Ring}
use Rattle.turn.specs.declared.Slot.{Slot}
use Rattle.turn.specs.declared.Cause.TheVariants.{A, C}
use Rattle.turn.specs.declared.Removal.{Removal}
use Rattle.turn.specs.declared.Removal.TheVariants.{Nobody, Itself, Owner, Both}
use Rattle.turn.proofs.TurnLaws.{turn_elim}
use Rattle.trail.specs.declared.Record.{Record}
use Rattle.demand2.specs.Story.{row_of, Gives, itself, owner, itself_too, owner_too, Says, Before}
use Rattle.trail.specs.Trail.{no_record, record_of, records_of}
use Rattle.ring.specs.Step.{records_at}
use Rattle.demand2.proofs.Entries.{records_in}

-- ---- every entry of a list, and every two in their order

abbrev pub Every : (Record → Type 0) → List Record → Type 0
Every = each.Every no_record

abbrev pub Ordered : List Record → Type 0
Ordered = each.Ordered no_record Before

-- ---- one holder's entries

every_held : (time p : ℕ) (gs : List Gone) → Every (λ e. e.holder ≡ p) (records_of time p gs)
every_held time p [] = each.every_nil no_record (λ e. e.holder ≡ p)
every_held time p (g ∷ more) =
    each.every_append no_record (record_of time p g ∷ []) (records_of time p more) (λ e. e.holder ≡ p)
    (each.every_one no_record (λ e. e.holder ≡ p) (record_of time p g) refl)
    (every_held time p more)

-- by a row of the table: a before c
ordered_row : (time p b : ℕ) (a bit ack d : Bool) → Ordered (records_of time p (gone_by p b (table a bit ack d).removed))
ordered_row time p b true true true d = each.ordered_nil no_record Before
ordered_row time p b true true false d = each.ordered_one no_record Before _
ordered_row time p b true false true false = each.ordered_one no_record Before _
ordered_row time p b true false true true = each.ordered_one no_record Before _
ordered_row time p b true false false d = each.ordered_nil no_record Before
ordered_row time p b false bit true d = each.ordered_one no_record Before _
ordered_row time p b false bit false d = each.ordered_two no_record Before (record_of time p (gone p A)) (record_of time p (gone b C)) (inr (refl, refl, refl))

-- a row's removals are told with their causes
Told : ℕ → ℕ → ℕ → Removal → Record → Type 0
Told time p b k e = (e.time ≡ time) × (e.holder ≡ p) × Gives p b k e.removed e.cause

told_row : (time p b : ℕ) (k : Removal) → Every (Told time p b k) (records_of time p (gone_by p b k))
unfolding Told
told_row time p b Nobody = each.every_nil no_record (Told time p b Nobody)
told_row time p b (Itself c) = each.every_one no_record (Told time p b (Itself c)) (record_of time p (gone p c)) (refl, refl, itself c)
told_row time p b (Owner c) = each.every_one no_record (Told time p b (Owner c)) (record_of time p (gone b c)) (refl, refl, owner c)
told_row time p b (Both c d) =
    each.every_two no_record (Told time p b (Both c d)) (record_of time p (gone p c)) (record_of time p (gone b d)) (refl, refl, itself_too c d) (refl, refl, owner_too c d)

module _ (r : Ring) (c : Slot) where
  says_told : (p : ℕ) → p < r.n → has_seat (seat_of r p).set p ≡ true → (p ≡ c.owner → ⊥) → has_seat (seat_of r p).set c.owner ≡ true
      → (e : Record) → Told r.time p c.owner (row_of r c p).removed e → Says r c e
  unfolding Told
  says_told p l h n g e t =
      let q = sym t.1 in
      record {
        time = t.0;
        holder = rw (← q) l;
        member = rw (← q) h;
        other = λ i. n (q ∙ i);
        expects = rw (← q) g;
        cause = subst (λ (x : ℕ). Gives x c.owner (row_of r c x).removed e.removed e.cause) q t.2;
      }

  says_at : (p : ℕ) → p < r.n → Every (Says r c) (records_at r c p)
  says_at p l =
      turn_elim c p (seat_of r p) (λ t. Every (Says r c) (records_of r.time p (gone_by p c.owner t.removal)))
      (λ h. each.every_nil no_record (Says r c))
      (λ h e. each.every_nil no_record (Says r c))
      (λ h n g i k. says_told p l h n g _ (told_row r.time p c.owner (row_of r c p).removed i k))
      (λ h n g. each.every_nil no_record (Says r c))

  ordered_at : (p : ℕ) → Ordered (records_at r c p)
  ordered_at p =
      turn_elim c p (seat_of r p) (λ t. Ordered (records_of r.time p (gone_by p c.owner t.removal)))
      (λ h. each.ordered_nil no_record Before)
      (λ h e. each.ordered_nil no_record Before)
      (λ h n g. ordered_row r.time p c.owner (arrived (view_of c p)) (bit_of (view_of c p)) (seat_of r p).ack (seat_of r p).doubt)
      (λ h n g. each.ordered_nil no_record Before)

  -- ---- the step's entries

  held_below : (k : ℕ) → Every (λ e. e.holder < k) (joined k (records_at r c))
  held_below k =
      each.every_joined no_record (records_at r c) (λ e. e.holder < k) k (λ p l i h.
      let q = every_held r.time p (gone_at r c p) i h in omega arith)

  ordered_joined : (k : ℕ) → Ordered (joined k (records_at r c))
  ordered_joined zero = each.ordered_nil no_record Before
  ordered_joined (suc k) =
      each.ordered_append no_record (joined k (records_at r c)) (records_at r c k) Before (ordered_joined k) (ordered_at k) (λ i j l h.
      let a = held_below k i l in
      let b = every_held r.time k (gone_at r c k) j h in
      inl (omega arith))

  pub says_step : Every (Says r c) (records_in r c)
  unfolding records_in
  says_step = each.every_joined no_record (records_at r c) (Says r c) r.n says_at

  pub ordered_step : Ordered (records_in r c)
  unfolding records_in
  ordered_step = ordered_joined r.n
