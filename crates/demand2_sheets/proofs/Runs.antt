-- Demand 2 of the run of a sheet: at every step taken, and of its whole trail. Assumes nothing.
use mathlib.Core.Path.{◌≡◌, refl, sym, ap}
use mathlib.Core.Bool.{true}
use mathlib.Core.List.{List}
use Prim.Native.Nat.{ℕ, ◌*◌, ◌≤◌, ◌<◌}
use Rattle.std.specs.Prelude.{Ok}
use Rattle.limits.specs.Limits.{seats_least, seats_most}
use Rattle.limits.specs.Refusals as limits
use Rattle.lists.specs.Counted.{tab}
use Rattle.ring.specs.Ring.{seat_of}
use Rattle.ring.specs.Step as step
use Rattle.ring.specs.declared.Ring.{Ring}
use Rattle.steps.specs.Run.{Marks, Bench, told_on, step_on, Reached}
use Rattle.sheet.specs.Good.{GoodSheet}
use Rattle.sheet.specs.declared.Sheet.{Sheet}
use Rattle.demand2.specs.Paper.{membership, updated, history, sent_false}
use Rattle.demand2.specs.Story.{OneStory, WholeStory}
use Rattle.demand2.proofs.Paper.{Holds, paper_run}
use Rattle.demand2.proofs.Story as story
use Rattle.demand2.proofs.Whole.{whole_story}
use Rattle.demand2.proofs.Sum.{SumIsN, sum_always, at_most_square}
use Rattle.run.specs.Marks.{marks_at}
use Rattle.run.specs.Outcome.{Result}
use Rattle.run.specs.Run.{run_sheet}
use Rattle.run.proofs.Story.{bench_at, run_story}

-- ---- what is said

-- step k of a run, from the bench before it: the sets and bits of document 002 with its footnote, and one
-- record for each removal and none besides
pub record StepHolds (n : ℕ) (trail : List ℕ) (b : Bench) (w : Reached n trail b) (m : Marks) : Type 0 where
  pub paper : (p : ℕ) → p < n → membership b.ring p p ≡ true → Holds (seat_of (step_on m b).ring p) (updated b.ring m (sent_false p (history w)) p)
  pub story : OneStory b.ring (step.slot_of b.ring m.send m.receive) b.trail (step_on m b).ring (step_on m b).trail

-- every step taken of a sheet's run, and all that the run leaves
pub record RunHolds (sheet : Sheet) (trail : List ℕ) (x : Result) : Type 0 where
  pub steps : ℕ
  pub taken : (i : ℕ) → i < steps → told_on (marks_at sheet i) (bench_at sheet trail i) ≡ limits.done
  pub each : (i : ℕ) → i < steps → (w : Reached sheet.n trail (bench_at sheet trail i)) → StepHolds sheet.n trail (bench_at sheet trail i) w (marks_at sheet i)
  pub ring : x.ring ≡ (bench_at sheet trail steps).ring
  pub written : x.trail ≡ (bench_at sheet trail steps).trail
  pub whole : WholeStory sheet.n (bench_at sheet trail steps)
  pub total : SumIsN sheet.n (bench_at sheet trail steps)
  pub square : x.ring.records ≤ sheet.n * sheet.n

-- ---- a step

step_holds : (n : ℕ) (trail : List ℕ) → seats_least ≤ n → n ≤ seats_most → (b : Bench) (w : Reached n trail b) (m : Marks) → told_on m b ≡ limits.done → StepHolds n trail b w m
step_holds n trail low high b w m e = record {
  paper = paper_run n trail low high b w m e;
  story = story.one_story b.ring m.send m.receive b.trail (record { answer = Ok tt; ring = (step_on m b).ring }) (step_on m b).trail
      (record { answer = sym e; ring = refl; trail = refl }) refl;
}

-- ---- the run

pub run_holds : (sheet : Sheet) → GoodSheet sheet → (trail : List ℕ) → RunHolds sheet trail (run_sheet sheet trail)
run_holds sheet good trail =
    let s = run_story sheet trail in
    let low = good.seats.0 in
    let high = good.seats.1 in
    let ms = tab s.steps (marks_at sheet) in
    let k = ap (λ (r : Ring). r.records) s.ring in
    record {
      steps = s.steps;
      taken = s.taken_all;
      each = λ i l w. step_holds sheet.n trail low high (bench_at sheet trail i) w (marks_at sheet i) (s.taken_all i l);
      ring = s.ring;
      written = s.written;
      whole = whole_story sheet.n trail low high ms;
      total = sum_always sheet.n trail low high ms;
      square = rw k (at_most_square sheet.n trail low high ms);
    }
