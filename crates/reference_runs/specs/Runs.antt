-- The runs of document 01 that are marked (P), one row each: what is asked, and what document 01 says comes
-- of it.
use Rattle.std.specs.Prelude.{Bool, true, false, List, [], ◌∷◌, ℕ}
use Rattle.turn.specs.Table.{gone}
use Rattle.trail.specs.Trail.{record_of}
use Rattle.trail.specs.declared.Record.{Record}
use Rattle.ring.specs.Refusals.{within, outside}
use Rattle.turn.specs.declared.Cause.{Cause}
use Rattle.turn.specs.declared.Cause.TheVariants.{A, B, C, D, E}
use Rattle.limits.specs.Refusals.{refused}
use Rattle.steps.specs.Run.{quiet, send_fault, missed_by}
use Rattle.reference_runs.specs.Reply.{Asked, stepped, read, Held, Reply, came, answered}

pub record Run : Type 0 where
  pub asked : Asked
  pub stated : Reply

abbrev run : Asked → Reply → Run
run a s = record { asked = a; stated = s }

-- a seat that is in, or out, with the seats in its set and its acknowledgement
abbrev holds : List ℕ → Bool → Held
holds set ack = record { set = set; ack = ack; is_out = false }

abbrev out_with : List ℕ → Bool → Held
out_with set ack = record { set = set; ack = ack; is_out = true }

-- a record: time, holder, removed seat, cause
abbrev removed : ℕ → ℕ → ℕ → Cause → Record
removed time p q c = record_of time p (gone q c)

unfoldable pub runs : List Run
runs =
    -- n = 4, send fault of 2 at time 2
    run (stepped 4 (quiet ∷ quiet ∷ send_fault ∷ quiet ∷ quiet ∷ []))
    (came
    (holds (0 ∷ 1 ∷ 3 ∷ []) true ∷ holds (0 ∷ 1 ∷ 3 ∷ []) true ∷ out_with (0 ∷ 1 ∷ []) true ∷ holds (0 ∷ 1 ∷ 3 ∷ []) true ∷ [])
    (removed 2 0 2 C ∷ removed 2 1 2 C ∷ removed 2 3 2 C ∷ removed 3 2 3 D ∷ removed 4 2 2 B ∷ [])
    within)
    -- the printed run: n = 4, seat 2 misses time 0
    ∷ run (stepped 4 (missed_by 2 ∷ quiet ∷ quiet ∷ quiet ∷ []))
    (came
    (holds (0 ∷ 1 ∷ 3 ∷ []) true ∷ holds (0 ∷ 1 ∷ 3 ∷ []) true ∷ out_with (1 ∷ 3 ∷ []) true ∷ holds (0 ∷ 1 ∷ 3 ∷ []) true ∷ [])
    (removed 0 2 0 C ∷ removed 1 2 2 B ∷ removed 2 0 2 C ∷ removed 2 1 2 C ∷ removed 2 3 2 C ∷ [])
    within)
    -- n = 3, seat 1 misses time 0: out by e
    ∷ run (stepped 3 (missed_by 1 ∷ quiet ∷ quiet ∷ []))
    (came
    (holds (0 ∷ 2 ∷ []) true ∷ out_with (2 ∷ []) false ∷ holds (0 ∷ 2 ∷ []) true ∷ [])
    (removed 0 1 0 C ∷ removed 1 0 1 D ∷ removed 1 2 1 D ∷ removed 2 1 1 E ∷ [])
    within)
    -- the same, and seat 1 misses time 2 too: alone
    ∷ run (stepped 3 (missed_by 1 ∷ quiet ∷ missed_by 1 ∷ []))
    (came
    (holds (0 ∷ 2 ∷ []) true ∷ holds (1 ∷ []) false ∷ holds (0 ∷ 2 ∷ []) true ∷ [])
    (removed 0 1 0 C ∷ removed 1 0 1 D ∷ removed 1 2 1 D ∷ removed 2 1 2 C ∷ [])
    within)
    -- n = 4, seat 3 misses time 0, send fault of 0 at time 4: four apart
    ∷ run (stepped 4 (missed_by 3 ∷ quiet ∷ quiet ∷ quiet ∷ send_fault ∷ []))
    (came
    (holds (0 ∷ 1 ∷ 2 ∷ []) true ∷ out_with (2 ∷ []) false ∷ out_with (1 ∷ []) false ∷ out_with (1 ∷ 2 ∷ []) true ∷ [])
    (removed 0 3 0 C ∷ removed 1 3 3 B ∷ removed 3 0 3 C ∷ removed 3 1 3 C ∷ removed 3 2 3 C
    ∷ removed 4 1 1 A ∷ removed 4 1 0 C ∷ removed 4 2 2 A ∷ removed 4 2 0 C ∷ [])
    (outside 4))
    -- n = 4, seat 3 misses time 0, send fault of 1 at time 5: five apart
    ∷ run (stepped 4 (missed_by 3 ∷ quiet ∷ quiet ∷ quiet ∷ quiet ∷ send_fault ∷ []))
    (came
    (holds (0 ∷ 2 ∷ []) false ∷ holds (0 ∷ 1 ∷ 2 ∷ []) true ∷ holds (0 ∷ 2 ∷ []) false ∷ out_with (1 ∷ 2 ∷ []) true ∷ [])
    (removed 0 3 0 C ∷ removed 1 3 3 B ∷ removed 3 0 3 C ∷ removed 3 1 3 C ∷ removed 3 2 3 C
    ∷ removed 5 0 1 C ∷ removed 5 2 1 C ∷ [])
    within)
    -- the empty sheet
    ∷ run (read []) (answered (refused 1 0))
    -- `1`, line feed
    ∷ run (read (49 ∷ 10 ∷ [])) (answered (refused 3 0))
    -- `02`
    ∷ run (read (48 ∷ 50 ∷ [])) (answered (refused 2 1))
    -- lines 2, 7, 7
    ∷ run (read (50 ∷ 10 ∷ 55 ∷ 10 ∷ 55 ∷ 10 ∷ [])) (answered (refused 4 4))
    -- lines 2, 7, 8, 1, `0 1 S`, 0
    ∷ run (read (50 ∷ 10 ∷ 55 ∷ 10 ∷ 56 ∷ 10 ∷ 49 ∷ 10 ∷ 48 ∷ 32 ∷ 49 ∷ 32 ∷ 83 ∷ 10 ∷ 48 ∷ 10 ∷ [])) (answered (refused 6 8))
    ∷ []
