-- The run of a sheet, document 01: a fresh ring stepped through the slots, the bus compared before each step.
use Rattle.std.specs.Prelude.{Bool, true, false, cond, Option, None, Some, List, ◌≡◌, ℕ, zero, suc, eqb}
use Rattle.limits.specs.Refusals as limits
use Rattle.limits.specs.Refusals.{number_of, Told}
use Rattle.ring.specs.Ring.{zero_ring}
use Rattle.ring.specs.Step.{slot_of}
use Rattle.ring.specs.Refusals.{verdict_found}
use Rattle.steps.specs.Run.{Marks, Bench, told_on, step_on, fresh_bench}
use Rattle.sheet_lines.specs.Found.{on_found}
use Rattle.sheet_lines.specs.Bytes.{heard_one, heard_zero, heard_silence}
use Rattle.sheet.specs.Good.{heard_in}
use Rattle.sheet.specs.Sheets.{no_sheet, sheet_in}
use Rattle.sheet.specs.declared.Sheet.{Sheet}
use Rattle.run.specs.Marks.{marks_at}
use Rattle.run.specs.Outcome.{Heard, agrees, differs, Outcome, ran, refused, said, Result}
use Rattle.run.specs.declared.Ran.{Ran}

-- what the bus recorder hears of what is spoken: the bit, or silence
abbrev pub heard_as : Option Bool → ℕ
heard_as None = heard_silence
heard_as (Some true) = heard_one
heard_as (Some false) = heard_zero

-- and of the owner of the ring's slot, with these marks
abbrev pub spoken_on : Marks → Bench → ℕ
spoken_on m b = heard_as (slot_of b.ring m.send m.receive).spoken

-- a run that ends here, with the ring after the last step taken and the records up to it
abbrev pub ends : Sheet → Bench → Outcome → Result
ends sheet b outcome = record { outcome = outcome; ring = b.ring; modules = sheet.modules; trail = b.trail }

-- with what the bus shows, and the verdict on the ring
abbrev pub judged : Sheet → Bench → Heard → Result
judged sheet b bus = ends sheet b (ran bus (verdict_found b.ring))

-- by the answer to a step: go on where it is taken, and stop with its number and place where it is refused
abbrev pub on_told : {A : Type 0} → Told → A → (ℕ → ℕ → A) → A
on_told limits.done more stop = more
on_told (limits.refused number place) more stop = stop number place

-- so many slots left: before each step what the owner speaks is compared with the slot's line. At the first
-- difference the run stops with that step not taken
unfoldable pub run_from : ℕ → Sheet → Bench → Result
run_from zero sheet b = judged sheet b agrees
run_from (suc left) sheet b =
    let t = b.ring.time in
    let m = marks_at sheet t in
    let more = run_from left sheet (step_on m b) in
    cond (eqb (spoken_on m b) (heard_in sheet t))
    (on_told (told_on m b) more (λ number place. ends sheet b (refused number place)))
    (judged sheet b (differs t))

-- a fresh ring through all the slots of the sheet
abbrev pub run_sheet : Sheet → List ℕ → Result
run_sheet sheet trail = run_from sheet.slot_count sheet (fresh_bench sheet.n trail)

-- the run of a sheet's bytes with a trail. A refused sheet takes no step, leaves the trail and gives the zero
-- ring
unfoldable pub run_of : List ℕ → List ℕ → Result
run_of bytes trail =
    on_found (sheet_in bytes)
    (λ sheet end. run_sheet sheet trail)
    (λ why place. ends no_sheet (record { ring = zero_ring; trail = trail }) (refused (number_of why) place))

-- what `run` promises, for any bytes and any buffer
pub record RunPromise (bytes t : List ℕ) (r : Ran) (t' : List ℕ) : Type 0 where
  pub answer : said r.answer ≡ (run_of bytes t).outcome
  pub ring : r.ring ≡ (run_of bytes t).ring
  pub modules : r.modules ≡ (run_of bytes t).modules
  pub trail : t' ≡ (run_of bytes t).trail
