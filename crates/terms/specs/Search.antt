-- What the search for the first step up to which the fault terms fail goes by. A reader of the promise needs
-- none of it.
use Rattle.std.specs.Prelude.{Bool, false, cond, not, ◌&&◌, ◌||◌, List, ℕ, ◌-◌, min, leb, eqb, length, count_by, Option, Some, None}
use Rattle.std.specs.List.{list_all, enumerate_from, filter_map, reduce}
use Rattle.terms.specs.Terms.{sound_least}

-- the first fault g, if any, is by step f
abbrev pub by_step : ℕ → Option ℕ → Bool
by_step f None = false
by_step f (Some g) = leb g f

-- and less than n + 1 slots before it
abbrev pub too_close : ℕ → ℕ → Option ℕ → Bool
too_close n f None = false
too_close n f (Some g) = leb g f && leb (f - g) n

-- the first fault f of seat p keeps apart: no other seat's is too close before it
abbrev pub keeps_apart : List (Option ℕ) → ℕ → ℕ → Bool
keeps_apart faults p f = list_all (λ x. eqb x.0 p || not (too_close (length faults) f x.1)) (enumerate_from 0 faults)

-- how many seats are sound after step f
abbrev pub sound_after : List (Option ℕ) → ℕ → ℕ
sound_after faults f = count_by (λ g. not (by_step f g)) faults

-- the terms hold up to the first fault f of seat p, as far as that fault is concerned
abbrev pub holds_with : List (Option ℕ) → ℕ → ℕ → Bool
holds_with faults p f = keeps_apart faults p f && leb sound_least (sound_after faults f)

-- the first fault f of seat p, where there is one and the terms fail with it
abbrev pub failing_at : List (Option ℕ) → ℕ → Option ℕ → Option ℕ
failing_at faults p None = None
failing_at faults p (Some f) = cond (not (holds_with faults p f)) (Some f) None

-- the earliest
abbrev pub first_found : List (Option ℕ) → Option ℕ
first_found faults = reduce min (filter_map (λ x. failing_at faults x.0 x.1) (enumerate_from 0 faults))
