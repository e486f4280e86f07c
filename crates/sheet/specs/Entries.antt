-- The entries of a sheet: counts, and as many lines; and the lines of the ring and of the slots.
use Rattle.std.specs.Prelude.{ℕ, suc, zero, ◌+◌, Bool, cond, not, List, get_or, set, eqb}
use Rattle.lists.specs.Counted.{all_below}
use Rattle.limits.specs.Limits.{module_most}
use Rattle.limits.specs.declared.Refusal.TheVariants.{ModuleTwice}
use Rattle.sheet_lines.specs.Found.{Found, found, offence, and_then}
use Rattle.sheet_lines.specs.Bytes.{is_heard}
use Rattle.sheet_lines.specs.Lines.{line_at, lone_at}

-- so many lines from a place on, the first being line k: `line at k entries` is what the line at `at` makes
-- of the entries so far
unfoldable pub lines_at : {S : Type 0} → (ℕ → ℕ → S → Found S) → ℕ → ℕ → ℕ → S → Found S
lines_at line zero at k entries = found entries at
lines_at line (suc more) at k entries = and_then (line at k entries) (λ entries next. lines_at line more next (k + 1) entries)

-- a count alone on its line, within its limits
abbrev pub count_line : ℕ → ℕ → List ℕ → ℕ → Found ℕ
count_line least most sheet at = line_at least most sheet at

-- and as many lines; the entries past the count stay as they are in `none`
abbrev pub entries_at : {A : Type 0} → (ℕ → ℕ → List A → Found (List A)) → List A → ℕ → ℕ → Found (List A)
entries_at line none count at = lines_at line count at 0 none

-- ---- the lines of the ring and of the slots

-- no earlier line has this module number
unfoldable pub is_new : ℕ → ℕ → List ℕ → Bool
is_new number k modules = all_below k (λ j. not (eqb (get_or modules j 0) number))

-- line k names seat k: a module number that is on no earlier line, else 4 at the line's first byte
unfoldable pub module_line : List ℕ → ℕ → ℕ → List ℕ → Found (List ℕ)
module_line sheet at k modules =
    and_then (line_at 1 module_most sheet at)
    (λ number next. cond (is_new number k modules) (found (set modules k number) next) (offence ModuleTwice at))

-- what the bus recorder heard
unfoldable pub slot_line : List ℕ → ℕ → ℕ → List ℕ → Found (List ℕ)
slot_line sheet at k slots = and_then (lone_at is_heard sheet at) (λ heard next. found (set slots k heard) next)
