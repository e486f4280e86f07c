-- With all the room that a trail can have, a run is refused only where its sheet is. Assumes nothing.
use mathlib.Core.Path.{◌≡◌, sym, ap, ◌∙◌}
use mathlib.Core.Bool.{false, true≢false}
use mathlib.Core.List.{List}
use mathlib.Core.Logic.{⊎_elim}
use Prim.Native.Nat.{ℕ, ◌*◌, ◌%◌, ◌≤◌, ◌<◌}
use native.Mathlib.Nat.{mul-le-mul}
use native.Mathlib.Omega.{arith}
use lib.ListN.{length}
use borrow.Author.Tests.{eq-eqb}
use Rattle.limits.specs.Refusals as limits
use Rattle.limits.specs.Refusals.{number_of, of_sheet, Told}
use Rattle.limits.specs.declared.Refusal.TheVariants.{NoRoom}
use Rattle.limits.proofs.Refusals.{one_reason}
use Rattle.lists.specs.Counted.{tab}
use Rattle.ring.specs.Ring.{owner_of}
use Rattle.ring.specs.declared.Ring.{Ring}
use Rattle.seats.proofs.Sets.{none_past}
use Rattle.seats.proofs.Joined.{with_below, has_with}
use Rattle.steps.specs.Run.{told_on, start}
use Rattle.ring.proofs.Checked.{owner_below}
use Rattle.steps.proofs.Reached.{Stands, reached_stands, run_reached}
use Rattle.sheet.specs.Good.{GoodSheet}
use Rattle.sheet.specs.declared.Sheet.{Sheet}
use Rattle.sheet_laws.proofs.Refusals.{reader_refusals}
use Rattle.demand2.specs.Refused.{WrongMark, Answered, not_a_ring, wrong_mark, at_the_end, no_room, taken}
use Rattle.demand2.proofs.Refused.{answers}
use Rattle.demand2.proofs.Sum as sum
use Rattle.run.specs.Marks.{receive_mark, marks_at}
use Rattle.run.specs.Outcome.{Outcome, refused, Result}
use Rattle.run.proofs.Reading.{read_is, run_offence}
use Rattle.run.proofs.Story.{bench_at, Ending, agreed, differed, stopped, run_story}
use Rattle.demand2_sheets.specs.Room.{AllRoom, OnlyTheReader, OfTheReader, NeverWithoutRoom}

-- the marks that a sheet gives to a slot are neither for its owner nor for no seat
marks_right : (sheet : Sheet) (r : Ring) (t : ℕ) → r.n ≡ sheet.n → r.time ≡ t → owner_of r < r.n → WrongMark r (marks_at sheet t).receive → ⊥
unfolding marks_at
marks_right sheet r t n e low w =
    let test = receive_mark sheet t in
    let own : owner_of r ≡ t % sheet.n = rw (n, e) in
    ⊎_elim
    (λ q.
    let o : w.0 ≡ t % sheet.n = q ∙ own in
    let h : test w.0 ≡ false = rw (eq-eqb w.0 (t % sheet.n) o) in
    true≢false (sym w.1 ∙ has_with test sheet.n w.0 (omega arith) ∙ h))
    (λ q. true≢false (sym w.1 ∙ none_past _ sheet.n w.0 (with_below test sheet.n) (omega arith)))
    w.2

-- no step of a sheet's run is refused
never_stopped : (sheet : Sheet) → GoodSheet sheet → (t : List ℕ) → AllRoom t → (k : ℕ) → k < sheet.slot_count → (bench_at sheet t k).ring.time ≡ k
    → (number place : ℕ) → told_on (marks_at sheet k) (bench_at sheet t k) ≡ limits.refused number place → ⊥
never_stopped sheet good t long k l time number place e =
    let b = bench_at sheet t k in
    let m = marks_at sheet k in
    go _ (answers b.ring m.send m.receive (length b.trail)) e
  where
    stands : Stands sheet.n (length t) (bench_at sheet t k)
    stands = reached_stands sheet.n t good.seats.0 good.seats.1 (run_reached (tab k (marks_at sheet)) start)

    go : (o : Told) → Answered (bench_at sheet t k).ring (marks_at sheet k).send (marks_at sheet k).receive (length (bench_at sheet t k).trail) o
        → o ≡ limits.refused number place → ⊥
    go _ (not_a_ring n) q = n (rw stands.kept stands.valid)
    go _ (wrong_mark v w) q = marks_right sheet (bench_at sheet t k).ring k stands.seats time (owner_below (bench_at sheet t k).ring _ v) w
    go _ (at_the_end v n w) q = let h = good.slotted in omega arith
    go _ (no_room v n w r) q =
        let x : 8 ≡ number = cc in
        let high = good.seats.1 in
        let sq : sheet.n * sheet.n ≤ 32 * 32 = mul-le-mul high high in
        sum.never_eight sheet.n t good.seats.0 high (omega arith) (tab k (marks_at sheet)) (marks_at sheet k) place (e ∙ ap (λ (j : ℕ). limits.refused j place) (sym x))
    go _ (taken v n w r) q = let z : ◌≡◌ {A = ℕ} 0 1 = cc in absurd (omega arith)

not_refused : (sheet : Sheet) → GoodSheet sheet → (t : List ℕ) → AllRoom t → (k : ℕ) → (bench_at sheet t k).ring.time ≡ k → (o : Outcome) → Ending sheet t k o
    → (number place : ℕ) → o ≡ refused number place → ⊥
not_refused sheet good t long k time o (agreed e) number place q = let z : ◌≡◌ {A = ℕ} 0 1 = cc in absurd (omega arith)
not_refused sheet good t long k time o (differed l n) number place q = let z : ◌≡◌ {A = ℕ} 0 1 = cc in absurd (omega arith)
not_refused sheet good t long k time o (stopped {number = j} {place = at} l a e) number place q = never_stopped sheet good t long k l time j at e

pub only_the_reader : OnlyTheReader
only_the_reader bytes t long number place e =
    ⊎_elim
    (λ r.
    let s = run_story r.0 t in
    absurd (not_refused r.0 r.1 t long s.steps s.time _ s.ending number place (sym (ap (λ (y : Result). y.outcome) (r.2 t)) ∙ e)))
    (λ r.
    let q = sym (ap (λ (y : Result). y.outcome) (run_offence bytes t r.2)) ∙ e in
    let n : number_of r.0 ≡ number = cc in
    let p : r.1 ≡ place = cc in
    (r.0, sym n, rw (← p) r.2))
    (read_is bytes)

pub of_the_reader : OfTheReader
of_the_reader bytes t long number place e = let r = only_the_reader bytes t long number place e in (r.0, r.1, reader_refusals bytes r.0 place r.2)

pub never_without_room : NeverWithoutRoom
never_without_room bytes t long place e =
    let r = of_the_reader bytes t long (number_of NoRoom) place e in
    true≢false (sym r.2 ∙ ap of_sheet (one_reason r.0 NoRoom (sym r.1)))
