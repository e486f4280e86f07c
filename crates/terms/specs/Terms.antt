-- The fault terms, and the first step up to which they fail.
use Rattle.std.specs.Prelude.{Bool, not, ◌&&◌, ◌||◌, List, ℕ, ◌+◌, ◌-◌, leb, ltb, eqb, get_or, Option, None}
use Rattle.lists.specs.Kept.{kept}
use Rattle.lists.specs.Counted.{all_below, count_below, first_below}

-- the time of the first fault of seat p as one number: one more than it, and 0 where there has been none
abbrev pub first_of : List (Option ℕ) → ℕ → ℕ
first_of faults p = kept (get_or faults p None)

-- seat p is faulty by step t: its first fault is at t or before
abbrev pub faulty_by : List (Option ℕ) → ℕ → ℕ → Bool
faulty_by faults t p = ltb 0 (first_of faults p) && leb (first_of faults p) (t + 1)

-- so many slots lie between
abbrev pub distance : ℕ → ℕ → ℕ
distance a b = a - b + (b - a)

-- two seats whose first faults are both by step t have them at least n + 1 slots apart
abbrev pub apart_by : ℕ → List (Option ℕ) → ℕ → ℕ → ℕ → Bool
apart_by n faults t p q =
    eqb p q || not (faulty_by faults t p) || not (faulty_by faults t q) || leb (n + 1) (distance (first_of faults p) (first_of faults q))

-- at least two seats are to be sound
abbrev pub sound_least : ℕ
sound_least = 2

-- any two are apart, and at least two seats are sound after step t
unfoldable pub terms_hold : ℕ → List (Option ℕ) → ℕ → Bool
terms_hold n faults t =
    all_below n (λ p. all_below n (apart_by n faults t p)) && leb sound_least (count_below n (λ p. not (faulty_by faults t p)))

-- the first step before the time up to which the fault terms fail, and the time where they hold up to each
unfoldable pub first_failing : (n : ℕ) (faults : List (Option ℕ)) (time : ℕ) → ℕ
first_failing n faults time = first_below time (λ t. not (terms_hold n faults t))
