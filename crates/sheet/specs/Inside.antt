-- What the reader's private functions answer, in the words of the definitions. Nothing that is promised of
-- `read` rests on this file.
use Rattle.std.specs.Prelude.{ℕ, ◌-◌, ◌≡◌, ⊤, List, length, get_or, set, take, Result, Ok, Err}
use denote.Ref.{Bor}
use Rattle.std.proofs.Math.Option.{Option, none, some}
use Rattle.limits.specs.declared.Refusal.{Refusal}
use Rattle.limits.specs.declared.Refused.{Refused}
use Rattle.sheet_lines.specs.Found.{Found, found, offence, and_then}
use Rattle.sheet_lines.specs.Pieces.{found_of}
use Rattle.sheet.specs.Marks.{no_mark, mark_offence, on_option, fields_at}
use Rattle.sheet.specs.declared.Mark.{Mark}
use Rattle.sheet.specs.declared.Sheet.{Sheet}

-- the mark, where nothing speaks against it
abbrev pub kept_or : Mark → Option Refusal → Result Mark Refusal
kept_or m none = Ok m
kept_or m (some why) = Err why

-- why a mark cannot stand after the earlier ones
abbrev pub offence_after : ℕ → List Mark → Mark → Option Refusal
offence_after n earlier m = mark_offence n (length earlier) (get_or earlier (length earlier - 1) no_mark) m

-- the mark on a line, after those on the lines before it
unfoldable pub next_mark : ℕ → List Mark → List ℕ → ℕ → Found Mark
next_mark n earlier sheet at =
    and_then (fields_at sheet at) (λ m next. on_option (offence_after n earlier m) (found m next) (λ why. offence why at))

-- a section: its entries and the place after them, or its offence
abbrev pub entered_up_to : {A : Type 0} → Result ℕ Refused → List A → Found (List A)
entered_up_to (Ok at) list = found list at
entered_up_to (Err r) list = offence r.why r.place

-- a sheet that was filled, or its offence
abbrev pub filled : Result ⊤ Refused → Sheet → Result Sheet Refused
filled (Ok nothing) sheet = Ok sheet
filled (Err r) sheet = Err r

-- what bytes are read as, without the place of their end
abbrev pub read_of : Found Sheet → Result Sheet Refused
read_of (found sheet end) = Ok sheet
read_of (offence why place) = Err (record { why = why; place = place })

-- what a line that is read makes of the entries before it: its own is entered in its place
abbrev pub entered : {A : Type 0} → List A → ℕ → Found A → Found (List A)
entered before k one = and_then one (λ a next. found (set before k a) next)

-- the reading of a line gives what `line` enters after those entries
abbrev pub Enters : {A : Type 0} → (Bor (List A) → ℕ → Result (A × ℕ) Refused → Type 0) → (ℕ → ℕ → List A → Found (List A)) → Type 0
Enters {A} reads line =
    (earlier : Bor (List A)) (at : ℕ) (r : Result (A × ℕ) Refused) → reads earlier at r
    → (before : List A) → take (length earlier.now) before ≡ earlier.now
    → line at (length earlier.now) before ≡ entered before (length earlier.now) (found_of r)
