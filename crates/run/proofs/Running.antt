-- The run of a sheet from a slot on: how it ends there or goes on, and that what is left comes to the same as
-- all did. Assumes nothing.
use mathlib.Core.Path.{◌≡◌, refl, sym, ap, ap₂, ◌∙◌}
use mathlib.Core.Bool.{Bool, true, false}
use mathlib.Core.List.{List}
use Prim.Native.Nat.{ℕ, zero, suc, ◌+◌, ◌-◌, ◌%◌, ◌≤◌, ◌<◌}
use native.Mathlib.Omega.{arith}
use lib.Dec.{eqb}
use lib.ListN.{length}
use borrow.Author.Tests.{eq-eqb, ne_eqb, le-leb}
use Rattle.limits.specs.Refusals as limits
use Rattle.turn.specs.Turn.{spoken_by}
use Rattle.ring.specs.Ring.{seat_of, owner_of, fresh_ring}
use Rattle.limits.specs.Refusals.{tells}
use Rattle.ring.specs.Promise.{FreshPromise, StepPromise}
use Rattle.ring.specs.declared.Ring.{Ring}
use Rattle.ring.specs.declared.Stepped.{Stepped}
use Rattle.steps.specs.Run.{Marks, Bench, told_on, step_on, fresh_bench}
use Rattle.steps.proofs.Reached.{fresh_n, fresh_time, step_after, step_refused, step_length}
use Rattle.sheet.specs.Good.{heard_in, GoodSheet}
use Rattle.sheet.specs.declared.Sheet.{Sheet}
use Rattle.run.specs.Marks.{owner_at, marks_at}
use Rattle.run.specs.Outcome.{agrees, differs, Outcome, refused, Result}
use Rattle.run.specs.Run.{heard_as, spoken_on, ends, judged, run_from, run_sheet}
use Rattle.run.specs.Inside.{none_gathered, slot_over, given_by, Gathers, NoneLeft, Ended, Leaves}
use Rattle.run.specs.declared.Ran.{Ran}
use Rattle.run.specs.declared.marks.Gathered.{Gathered}
use Rattle.run.specs.declared.marks.SlotMarks.{SlotMarks}
use Rattle.run.proofs.Gathering.{none_yet, next_slot, send_given, receive_given}

abbrev pub bench : Ring → List ℕ → Bench
bench ring trail = record { ring = ring; trail = trail }

-- the marks of the ring's slot, and what was heard in it
abbrev pub marks_on : Sheet → Bench → Marks
marks_on sheet b = marks_at sheet b.ring.time

abbrev pub heard_on : Sheet → Bench → ℕ
heard_on sheet b = heard_in sheet b.ring.time

-- ---- one slot of the run

pub run_ends : (sheet : Sheet) (b : Bench) → run_from zero sheet b ≡ judged sheet b agrees
unfolding run_from
run_ends sheet b = refl

module _ (sheet : Sheet) (b : Bench) (left : ℕ) where
  pub run_differs : eqb (spoken_on (marks_on sheet b) b) (heard_on sheet b) ≡ false → run_from (suc left) sheet b ≡ judged sheet b (differs b.ring.time)
  unfolding run_from
  run_differs e = rw e

  module _ (same : eqb (spoken_on (marks_on sheet b) b) (heard_on sheet b) ≡ true) where
    pub run_stops : {number place : ℕ} → told_on (marks_on sheet b) b ≡ limits.refused number place → run_from (suc left) sheet b ≡ ends sheet b (refused number place)
    unfolding run_from
    run_stops e = rw (same, e)

    pub run_goes_on : told_on (marks_on sheet b) b ≡ limits.done → run_from (suc left) sheet b ≡ run_from left sheet (step_on (marks_on sheet b) b)
    unfolding run_from
    run_goes_on e = rw (same, e)

-- ---- the loop over the slots

-- at this slot, with what is gathered of its marks: what is left of the run comes to what the whole does
pub record Going (sheet : Sheet) (whole : Result) (trail : List ℕ) (r : Ring) (g : Gathered) (at : ℕ) : Type 0 where
  pub seats : r.n ≡ sheet.n
  pub time : r.time ≡ at
  pub within : at ≤ sheet.slot_count
  pub gathers : Gathers sheet at g
  pub same : (left : ℕ) → left + at ≡ sheet.slot_count → run_from left sheet (bench r trail) ≡ whole

-- a good sheet has a fresh ring
pub fresh_given : (sheet : Sheet) → GoodSheet sheet → (s : Stepped) → FreshPromise sheet.n s → s.ring ≡ fresh_ring sheet.n
fresh_given sheet good s p = p.ring ∙ rw (le-leb 2 sheet.n good.seats.0, le-leb sheet.n 32 good.seats.1)

pub going_start : (sheet : Sheet) (t : List ℕ) → Going sheet (run_sheet sheet t) t (fresh_ring sheet.n) none_gathered 0
going_start sheet t = record {
  seats = fresh_n sheet.n;
  time = fresh_time sheet.n;
  within = omega arith;
  gathers = none_yet sheet;
  same = λ left e. let q : left ≡ sheet.slot_count = omega arith in ap (λ (k : ℕ). run_from k sheet (fresh_bench sheet.n t)) q;
}

module _ {sheet : Sheet} {all : Result} {trail : List ℕ} {r : Ring} {g : Gathered} {at : ℕ} (go : Going sheet all trail r g at) where
  -- all the marks of this slot are gathered
  pub going_gathered : {more : Gathered} → Gathers sheet at more → Going sheet all trail r more at
  going_gathered gathers = record { seats = go.seats; time = go.time; within = go.within; gathers = gathers; same = go.same }

  -- no slot is left
  pub going_over : sheet.slot_count ≤ at → all ≡ judged sheet (bench r trail) agrees
  going_over l = sym (go.same zero (let h = go.within in omega arith)) ∙ run_ends sheet (bench r trail)

  module _ (good : GoodSheet sheet) (early : at < sheet.slot_count) (whole : NoneLeft sheet at g) where
    abbrev b : Bench
    b = bench r trail

    abbrev given : SlotMarks
    given = given_by g (owner_at sheet at)

    -- the marks gathered are the slot's
    marks_given : record { send = given.send; receive = given.receive } ≡ marks_on sheet b
    marks_given =
        let s = send_given sheet good at g go.gathers whole in
        let q = receive_given sheet good at g go.gathers whole in
        ap₂ (λ (x : Bool) (y : ℕ). record { send = x; receive = y }) s q ∙ ap (marks_at sheet) (sym go.time)

    pub spoken_given : heard_as (spoken_by (owner_at sheet at) (seat_of r (owner_at sheet at)).set (seat_of r (owner_at sheet at)).ack given.send) ≡ spoken_on (marks_on sheet b) b
    spoken_given =
        let o : owner_at sheet at ≡ owner_of r = ap₂ (λ (x y : ℕ). x % y) (sym go.time) (sym go.seats) in
        ap (λ (k : ℕ). heard_as (spoken_by k (seat_of r k).set (seat_of r k).ack given.send)) o ∙ ap (λ (m : Marks). spoken_on m b) marks_given

    left : ℕ
    left = sheet.slot_count - (at + 1)

    -- the run from here
    from : run_from (suc left) sheet b ≡ all
    unfolding left
    from = go.same (suc (sheet.slot_count - (at + 1))) (omega arith)

    -- what was heard
    line : heard_in sheet at ≡ heard_on sheet b
    line = ap (heard_in sheet) (sym go.time)

    pub going_differs : (spoken_on (marks_on sheet b) b ≡ heard_in sheet at → ⊥) → all ≡ judged sheet b (differs at)
    going_differs n =
        sym from ∙ run_differs sheet b left (ne_eqb (spoken_on (marks_on sheet b) b) (heard_on sheet b) (λ e. n (e ∙ sym line)))
        ∙ ap (λ (t : ℕ). judged sheet b (differs t)) go.time

    module _ (heard : spoken_on (marks_on sheet b) b ≡ heard_in sheet at) {s : Stepped} {t' : List ℕ}
        (p : StepPromise r given.send given.receive trail s t') where
      alike : eqb (spoken_on (marks_on sheet b) b) (heard_on sheet b) ≡ true
      alike = eq-eqb (spoken_on (marks_on sheet b) b) (heard_on sheet b) (heard ∙ line)

      answered : tells s.answer ≡ told_on (marks_on sheet b) b
      answered = p.answer ∙ ap (λ (m : Marks). told_on m b) marks_given

      stepped : bench s.ring t' ≡ step_on (marks_on sheet b) b
      stepped = ap₂ (λ (x : Ring) (y : List ℕ). bench x y) p.ring p.trail ∙ ap (λ (m : Marks). step_on m b) marks_given

      pub going_length : length t' ≡ length trail
      going_length = ap (λ (x : Bench). length x.trail) stepped ∙ step_length (marks_on sheet b) b

      pub going_stops : {number place : ℕ} → tells s.answer ≡ limits.refused number place → all ≡ ends sheet (bench s.ring t') (refused number place)
      going_stops {number} {place} e =
          let q = sym answered ∙ e in
          sym from ∙ run_stops sheet b left alike q
          ∙ ap (λ (x : Bench). ends sheet x (refused number place)) (sym (stepped ∙ step_refused (marks_on sheet b) b q))

      pub going_on : tells s.answer ≡ limits.done → Going sheet all t' s.ring (slot_over g) (at + 1)
      unfolding left
      going_on e =
          let q = sym answered ∙ e in
          let after = stepped ∙ step_after (marks_on sheet b) b q in
          let n = ap (λ (x : Bench). x.ring.n) after in
          let t = ap (λ (x : Bench). x.ring.time) after in
          record {
            seats = n ∙ go.seats;
            time = t ∙ ap (λ (k : ℕ). k + 1) go.time;
            within = omega arith;
            gathers = next_slot sheet good at g go.gathers whole;
            same = λ more h.
                let k : more ≡ left = omega arith in
                ap (run_from more sheet) stepped
                ∙ ap (λ (x : ℕ). run_from x sheet (step_on (marks_on sheet b) b)) k
                ∙ sym (run_goes_on sheet b left alike q)
                ∙ from;
          }

-- ---- what the run leaves

pub leaves : {all : Result} (sheet : Sheet) (ring : Ring) (t' : List ℕ) (o : Outcome) (r : Ran) → Ended o ring sheet.modules r
    → all ≡ ends sheet (bench ring t') o → Leaves all r t'
leaves sheet ring t' o r e q = rw q (record { answer = e.answer; ring = e.ring; modules = e.modules; trail = refl })
