-- How many of the records in a trail say a thing.
use Rattle.std.specs.Prelude.{Bool, ◌&&◌, List, ℕ, ◌+◌, eqb}
use Rattle.lists.specs.Counted.{count_below}
use Rattle.trail.specs.Trail.{record_at}
use Rattle.trail.specs.declared.Record.{Record}
use Rattle.steps.specs.Run.{Bench}

-- how many of the records first, first + 1, .., so many in all, pass the test
unfoldable pub passing : (Record → Bool) → ℕ → ℕ → List ℕ → ℕ
passing test first many t = count_below many (λ i. test (record_at t (first + i)))

-- the record's holder is p
abbrev pub held_by : ℕ → Record → Bool
held_by p e = eqb e.holder p

-- its holder is p and its removed seat is q
abbrev pub tells_of : ℕ → ℕ → Record → Bool
tells_of p q e = eqb e.holder p && eqb e.removed q

-- how many of the records written have the holder p
abbrev pub records_by : ℕ → Bench → ℕ
records_by p b = passing (held_by p) 0 b.ring.records b.trail
