-- Runs of small sheets, computed: document 01's printed sheet, and what ends a run before its last slot.
-- Assumes nothing.
use mathlib.Core.Path.{◌≡◌, refl}
use mathlib.Core.Bool.{true}
use mathlib.Core.List.{List, [], ◌∷◌, ◌++◌}
use Prim.Native.Nat.{ℕ}
use lib.ListN.{take, replicate}
use Rattle.ring.specs.Ring.{fresh_ring, zero_ring, is_ring, every_seat_stands}
use Rattle.turn.specs.Turn.{turn_of}
use Rattle.terms.specs.Terms.{terms_hold, first_failing}
use Rattle.ring.specs.Refusals.{within, step_told, verdict_found}
use Rattle.ring.specs.Promise.{ring_of, trail_of}
use Rattle.sheet_lines.specs.Bytes.{byte_at, digits_at, number_at}
use Rattle.sheet_lines.specs.Lines.{end_at, ended, line_at, spaced_at}
use Rattle.sheet.specs.Entries.{lines_at, is_new, module_line, slot_line}
use Rattle.sheet.specs.Marks.{mark_offence, fields_at, mark_line}
use Rattle.sheet.specs.Sheets.{no_modules, no_marks, no_slots, sheet_in}
use Rattle.run.specs.Marks.{marks_at}
use Rattle.run.specs.Outcome.{agrees, differs, ran, refused}
use Rattle.run.specs.Run.{run_from, run_of}

-- four seats, 11 to 14
ring : List ℕ
ring = 52 ∷ 10 ∷ 49 ∷ 49 ∷ 10 ∷ 49 ∷ 50 ∷ 10 ∷ 49 ∷ 51 ∷ 10 ∷ 49 ∷ 52 ∷ 10 ∷ []

-- `0 2 R`; `0 2 D`; and no marks
missed : List ℕ
missed = 49 ∷ 10 ∷ 48 ∷ 32 ∷ 50 ∷ 32 ∷ 82 ∷ 10 ∷ []

darkened : List ℕ
darkened = 49 ∷ 10 ∷ 48 ∷ 32 ∷ 50 ∷ 32 ∷ 68 ∷ 10 ∷ []

unmarked : List ℕ
unmarked = 48 ∷ 10 ∷ []

-- `1 1 - 0`; `1 1 1 1`; and `1 1 0`
printed : List ℕ
printed = 52 ∷ 10 ∷ 49 ∷ 10 ∷ 49 ∷ 10 ∷ 45 ∷ 10 ∷ 48 ∷ 10 ∷ []

steady : List ℕ
steady = 52 ∷ 10 ∷ 49 ∷ 10 ∷ 49 ∷ 10 ∷ 49 ∷ 10 ∷ 49 ∷ 10 ∷ []

third : List ℕ
third = 51 ∷ 10 ∷ 49 ∷ 10 ∷ 49 ∷ 10 ∷ 48 ∷ 10 ∷ []

-- ---- what is said

-- the printed run: the bus agrees, the faults are within, and five records
abbrev PrintedRun : Type 0
PrintedRun = let x = run_of (ring ++ missed ++ printed) (replicate 40 7) in
    (x.outcome ≡ ran agrees within) × (take 4 x.ring.sets ≡ 11 ∷ 11 ∷ 10 ∷ 11 ∷ []) × (take 4 x.ring.acks ≡ true ∷ true ∷ true ∷ true ∷ []) × (take 4 x.modules ≡ 11 ∷ 12 ∷ 13 ∷ 14 ∷ [])
    × (x.trail ≡ (0 ∷ 0 ∷ 2 ∷ 0 ∷ 99 ∷ 1 ∷ 0 ∷ 2 ∷ 2 ∷ 98 ∷ 2 ∷ 0 ∷ 0 ∷ 2 ∷ 99 ∷ 2 ∷ 0 ∷ 1 ∷ 2 ∷ 99 ∷ 2 ∷ 0 ∷ 3 ∷ 2 ∷ 99 ∷ []) ++ replicate 15 7)

-- its third slot heard as `0`: the run stops before that step
abbrev StoppedRun : Type 0
StoppedRun = let x = run_of (ring ++ missed ++ third) (replicate 40 7) in
    (x.outcome ≡ ran (differs 2) within) × (x.ring.time ≡ 2) × (x.trail ≡ (0 ∷ 0 ∷ 2 ∷ 0 ∷ 99 ∷ 1 ∷ 0 ∷ 2 ∷ 2 ∷ 98 ∷ []) ++ replicate 30 7)

-- room for three records: the step at time 2 is refused 8, with the records up to it and no verdict
abbrev FullRun : Type 0
FullRun = let x = run_of (ring ++ missed ++ printed) (replicate 19 7) in
    (x.outcome ≡ refused 8 2) × (x.ring.time ≡ 2) × (x.trail ≡ (0 ∷ 0 ∷ 2 ∷ 0 ∷ 99 ∷ 1 ∷ 0 ∷ 2 ∷ 2 ∷ 98 ∷ []) ++ replicate 9 7)

-- darkness does not end: seat 2 hears nobody, removes itself at time 1 by a, and is silent in its own slot
abbrev DarkRun : Type 0
DarkRun = let x = run_of (ring ++ darkened ++ printed) (replicate 40 7) in
    (x.outcome ≡ ran agrees within) × (x.ring.time ≡ 4) × (take 4 x.ring.sets ≡ 11 ∷ 11 ∷ 8 ∷ 11 ∷ [])

-- no mark takes hold: everybody speaks true
abbrev SteadyRun : Type 0
SteadyRun = let x = run_of (ring ++ unmarked ++ steady) [] in
    (x.outcome ≡ ran agrees within) × (x.ring.sets ≡ (fresh_ring 4).sets) × (x.ring.time ≡ 4) × (x.trail ≡ [])

-- a sheet that ends early: refused, with the zero ring and the trail as it came
abbrev RefusedRun : Type 0
RefusedRun = let x = run_of ring (7 ∷ []) in (x.outcome ≡ refused 1 14) × (x.ring ≡ zero_ring) × (x.modules ≡ no_modules) × (x.trail ≡ 7 ∷ [])

-- ---- all computed

small_runs : PrintedRun × StoppedRun × FullRun × DarkRun × SteadyRun × RefusedRun
unfolding ring missed darkened unmarked printed steady third run_of run_from marks_at sheet_in no_modules no_marks no_slots lines_at module_line mark_line slot_line is_new line_at ended end_at number_at digits_at byte_at fields_at spaced_at mark_offence step_told ring_of trail_of verdict_found is_ring every_seat_stands fresh_ring zero_ring turn_of terms_hold first_failing
small_runs = ((refl, refl, refl, refl, refl), (refl, refl, refl), (refl, refl, refl), (refl, refl, refl), (refl, refl, refl, refl), (refl, refl, refl, refl))
