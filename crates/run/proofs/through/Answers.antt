-- `through`: each turn gathers a slot's marks and takes its step, and what is left of the run comes to what the
-- whole does. Assumes nothing.
use Rattle.std.proofs.Common.{◌≡◌, refl, List, ℕ, ◌<◌, sym, ap, ◌∙◌, subst, arith}
use Rattle.turn.specs.Turn.{spoken_by}
use Rattle.ring.specs.Ring.{seat_of}
use Rattle.limits.specs.Refusals.{tells}
use Rattle.ring.specs.Promise.{StepPromise}
use Rattle.ring.specs.declared.Ring.{Ring}
use Rattle.ring.specs.declared.Stepped.{Stepped}
use Rattle.sheet.specs.Good.{GoodSheet}
use Rattle.sheet.specs.declared.Sheet.{Sheet}
use Rattle.run.specs.Marks.{owner_at}
use Rattle.run.specs.Outcome.{Result}
use Rattle.run.specs.Run.{heard_as, spoken_on}
use Rattle.run.specs.Inside.{NoneLeft, given_by}
use Rattle.run.specs.declared.marks.Gathered.{Gathered}
use Rattle.run.specs.declared.marks.SlotMarks.{SlotMarks}
use Rattle.run.proofs.Running.{bench, marks_on, Going, fresh_given, going_start, going_gathered, going_over, spoken_given, going_differs, going_stops, going_on, leaves}
use Rattle.run.proofs.through.Goals as goal

-- what the owner speaks
said : (sheet : Sheet) (r : Ring) (g : Gathered) (at : ℕ) {all : Result} {trail : List ℕ} {marks : SlotMarks} {x : ℕ}
    → Going sheet all trail r g at → GoodSheet sheet → at < sheet.slot_count → NoneLeft sheet at g
    → marks ≡ given_by g (owner_at sheet at)
    → x ≡ heard_as (spoken_by (owner_at sheet at) (seat_of r (owner_at sheet at)).set (seat_of r (owner_at sheet at)).ack marks.send)
    → x ≡ spoken_on (marks_on sheet (bench r trail)) (bench r trail)
said sheet r g at go good early whole given e =
    let o = owner_at sheet at in
    e ∙ ap (λ (x : SlotMarks). heard_as (spoken_by o (seat_of r o).set (seat_of r o).ack x.send)) given ∙ spoken_given go good early whole

-- the step is given the slot's marks
promise : (sheet : Sheet) (r : Ring) (g : Gathered) (at : ℕ) {trail : List ℕ} {marks : SlotMarks} {s : Stepped} {t' : List ℕ}
    → marks ≡ given_by g (owner_at sheet at) → StepPromise r marks.send marks.receive trail s t'
    → StepPromise r (given_by g (owner_at sheet at)).send (given_by g (owner_at sheet at)).receive trail s t'
promise sheet r g at {trail} {marks} {s} {t'} given p = subst (λ (x : SlotMarks). StepPromise r x.send x.receive trail s t') given p

pub loop-at-init : goal.loop-at-init
loop-at-init c =
    let e = fresh_given c.args.sheet.now c.requires _ c.fresh-stepped.ensures in
    rw (e, c.none-gathered.ensures) (going_start c.args.sheet.now c.args.trail.now)

pub with_slot-whole-requires-clause-gathers : goal.with_slot-whole-requires-clause-gathers
with_slot-whole-requires-clause-gathers c = c.loop-at.invariant.gathers

pub returns-then-spoken-sheet : goal.returns-then-spoken-sheet
returns-then-spoken-sheet c =
    let sheet = c.args.sheet.now in
    let l = c.loop-at in
    let w = c.with_slot-whole in
    let go = going_gathered l.invariant w.ensures.gathers in
    leaves sheet l.stepped.ring l.trail _ _ c.judged.ensures
    (going_differs go c.requires c.loop-at-test.true w.ensures.whole
    (λ e. c.if-spoken-sheet.true (said sheet l.stepped.ring w.result l.at go c.requires c.loop-at-test.true w.ensures.whole c.given_by-given.ensures c.spoken.ensures ∙ e)))

pub returns-in-Err : goal.returns-in-Err
returns-in-Err c =
    let sheet = c.args.sheet.now in
    let l = c.loop-at in
    let w = c.with_slot-whole in
    let go = going_gathered l.invariant w.ensures.gathers in
    let heard = sym (said sheet l.stepped.ring w.result l.at go c.requires c.loop-at-test.true w.ensures.whole c.given_by-given.ensures c.spoken.ensures) ∙ c.if-spoken-sheet.false in
    leaves sheet c.step-stepped.result.ring c.step-stepped.new.trail _ _ (record { answer = refl; ring = refl; modules = refl })
    (going_stops go c.requires c.loop-at-test.true w.ensures.whole heard (promise sheet l.stepped.ring w.result l.at c.given_by-given.ensures c.step-stepped.ensures) (ap tells c.in-Err.is))

pub loop-at-preserved : goal.loop-at-preserved
loop-at-preserved c =
    let sheet = c.args.sheet.now in
    let l = c.loop-at in
    let w = c.with_slot-whole in
    let go = going_gathered l.invariant w.ensures.gathers in
    let heard = sym (said sheet l.stepped.ring w.result l.at go c.requires c.loop-at-test.true w.ensures.whole c.given_by-given.ensures c.spoken.ensures) ∙ c.if-spoken-sheet.false in
    rw c.slot_over-gathered.ensures
    (going_on go c.requires c.loop-at-test.true w.ensures.whole heard (promise sheet l.stepped.ring w.result l.at c.given_by-given.ensures c.step-stepped.ensures) (ap tells c.in_default.is))

pub returns : goal.returns
returns c =
    leaves c.args.sheet.now c.loop-at.stepped.ring c.loop-at.trail _ _ c.judged-2.ensures (going_over c.loop-at.invariant (omega (arith, c.loop-at-test.false)))
