-- The mark lines of a sheet: what may be on one, and what a mark must keep to.
use Rattle.std.specs.Prelude.{ℕ, ◌-◌, ◌%◌, Bool, true, cond, not, ◌&&◌, ◌||◌, List, get_or, set, ltb, eqb}
use Rattle.std.proofs.Math.Option.{Option, none, some}
use Rattle.limits.specs.Limits.{slots_most}
use Rattle.limits.specs.declared.Refusal.{Refusal}
use Rattle.limits.specs.declared.Refusal.TheVariants.{OutsideLimits, MarkNotAbove, WrongMark}
use Rattle.sheet_lines.specs.Found.{Found, found, offence, and_then}
use Rattle.sheet_lines.specs.Bytes.{send, receive, is_kind}
use Rattle.sheet_lines.specs.Lines.{spaced_at, lone_at}
use Rattle.sheet.specs.declared.Mark.{Mark}

abbrev pub mark : ℕ → ℕ → ℕ → Mark
mark time seat kind = record { time = time; seat = seat; kind = kind }

abbrev pub no_mark : Mark
no_mark = mark 0 0 0

-- ---- what a mark must keep to, on values

-- time 0 to 4,095, seat below n
abbrev pub mark_within : ℕ → Mark → Bool
mark_within n m = ltb m.time slots_most && ltb m.seat n

-- above by time, then seat
abbrev pub above : Mark → Mark → Bool
above last m = ltb last.time m.time || (eqb last.time m.time && ltb last.seat m.seat)

-- mark k is above the last one before it, if there is one
abbrev pub ascends : ℕ → Mark → Mark → Bool
ascends k last m = eqb k 0 || above last m

-- a send mark is for the owner of the slot, a receive mark for another seat
abbrev pub allowed : ℕ → Mark → Bool
allowed n m =
    let is_owner = eqb m.seat (m.time % n) in
    cond (eqb m.kind send) is_owner (cond (eqb m.kind receive) (not is_owner) true)

-- why mark k of a ring of n seats cannot stand after the last one: 3, then 5, then 6
unfoldable pub mark_offence : ℕ → ℕ → Mark → Mark → Option Refusal
mark_offence n k last m =
    cond (mark_within n m) (cond (ascends k last m) (cond (allowed n m) none (some WrongMark)) (some MarkNotAbove)) (some OutsideLimits)

-- ---- mark lines

abbrev pub on_option : {A B : Type 0} → Option A → B → (A → B) → B
on_option none nothing one = nothing
on_option (some a) nothing one = one a

-- `time seat kind`, to the line's end
unfoldable pub fields_at : List ℕ → ℕ → Found Mark
fields_at sheet at =
    and_then (spaced_at sheet at)
    (λ time at. and_then (spaced_at sheet at)
    (λ seat at. and_then (lone_at is_kind sheet at)
    (λ kind next. found (mark time seat kind) next)))

-- line k of a ring of n seats; 3, 5 and 6 stand at the line's first byte
unfoldable pub mark_line : ℕ → List ℕ → ℕ → ℕ → List Mark → Found (List Mark)
mark_line n sheet at k marks =
    let last = get_or marks (k - 1) no_mark in
    and_then (fields_at sheet at) (λ m next. on_option (mark_offence n k last m) (found (set marks k m) next) (λ why. offence why at))
