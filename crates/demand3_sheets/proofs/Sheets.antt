-- Demand 3 of the run of a sheet, from demand 3 of any list of steps. Assumes nothing.
use mathlib.Core.Path.{◌≡◌, refl, sym, ap, ◌∙◌}
use mathlib.Core.List.{List}
use Prim.Native.Nat.{ℕ, ◌+◌, ◌-◌, ◌≤◌}
use native.Mathlib.Omega.{arith}
use Rattle.lists.specs.Counted.{tab}
use Rattle.lists.proofs.Counted.{tab_split}
use Rattle.ring.specs.Refusals.{verdict_found, within}
use Rattle.steps.specs.Run.{Marks, fresh_bench, run_on}
use Rattle.sheet_lines.specs.Found.{Found, found, offence}
use Rattle.sheet.specs.Good.{GoodSheet}
use Rattle.sheet.specs.Sheets.{sheet_in}
use Rattle.sheet.specs.declared.Sheet.{Sheet}
use Rattle.sheet.proofs.Good.{read_good}
use Rattle.run.specs.Marks.{marks_at}
use Rattle.run.specs.Along.{bench_at}
use Rattle.run.specs.Outcome.{Heard, Outcome, ran, Result}
use Rattle.run.proofs.Reading.{run_read, run_offence}
use Rattle.run.proofs.Story.{Ending, agreed, differed, stopped, run_story}
use Rattle.demand3.specs.Demand.{Agreement}
use Rattle.demand3.proofs.Demand.{demand3}
use Rattle.demand3_sheets.specs.Sheets.{AgreedThroughout, Demand3OfSheets}

-- a run's verdict is that on its last ring
last_within : (sheet : Sheet) (trail : List ℕ) (k : ℕ) (o : Outcome) → Ending sheet trail k o → (bus : Heard) → o ≡ ran bus within
    → verdict_found (bench_at sheet trail k).ring ≡ within
last_within sheet trail k o (agreed e) bus q = cc
last_within sheet trail k o (differed l n) bus q = cc
last_within sheet trail k o (stopped l a e) bus q = let z : ◌≡◌ {A = ℕ} 0 1 = cc in absurd (omega arith)

-- demand 3 after the first k of the slots
agreed_at : (sheet : Sheet) → GoodSheet sheet → (trail : List ℕ) (steps : ℕ) → verdict_found (bench_at sheet trail steps).ring ≡ within
    → (k : ℕ) → k ≤ steps → Agreement (bench_at sheet trail k).ring
agreed_at sheet good trail steps w k l =
    let marks = marks_at sheet in
    let split = tab_split k (steps - k) marks ∙ ap (λ (x : ℕ). tab x marks) (let e : k + (steps - k) ≡ steps = omega arith in e) in
    demand3 sheet.n trail (tab k marks) (tab (steps - k) (λ i. marks (k + i)))
    (record { least = good.seats.0; most = good.seats.1; terms = ap (λ (ms : List Marks). verdict_found (run_on ms (fresh_bench sheet.n trail)).ring) split ∙ w })

pub demand3_of_sheets : Demand3OfSheets
demand3_of_sheets bytes trail bus e = go (sheet_in bytes) refl
  where
    go : (f : Found Sheet) → sheet_in bytes ≡ f → AgreedThroughout bytes trail
    go (offence why place) q = let r = sym (ap (λ (y : Result). y.outcome) (run_offence bytes trail q)) ∙ e in let z : ◌≡◌ {A = ℕ} 0 1 = cc in absurd (omega arith)
    go (found sheet end) q =
        let same = run_read bytes trail q in
        let s = run_story sheet trail in
        let w = last_within sheet trail s.steps _ s.ending bus (sym (ap (λ (y : Result). y.outcome) same) ∙ e) in
        record {
          sheet = sheet;
          end = end;
          read = q;
          steps = s.steps;
          taken = s.taken_all;
          last = ap (λ (y : Result). y.ring) same ∙ s.ring;
          agreed = λ k l. agreed_at sheet (read_good bytes sheet end q) trail s.steps w k (omega arith);
        }
