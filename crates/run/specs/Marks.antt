-- Which marks a slot has, document 01: `S` and `R` at their time, and `D` from its time on.
use Rattle.std.specs.Prelude.{Bool, not, ◌&&◌, ◌||◌, ℕ, ◌%◌, leb, eqb}
use Rattle.lists.specs.Counted.{any_below}
use Rattle.seats.specs.Joined.{seats_with}
use Rattle.steps.specs.Run.{Marks}
use Rattle.sheet_lines.specs.Bytes.{send, receive, dark}
use Rattle.sheet.specs.Good.{mark_of}
use Rattle.sheet.specs.declared.Mark.{Mark}
use Rattle.sheet.specs.declared.Sheet.{Sheet}

-- the mark is of this kind, at time t, for seat p
abbrev pub says : ℕ → ℕ → ℕ → Mark → Bool
says kind t p m = eqb m.time t && eqb m.kind kind && eqb m.seat p

-- it makes seat p dark from time t or before on
abbrev pub darkens : ℕ → ℕ → Mark → Bool
darkens t p m = leb m.time t && eqb m.kind dark && eqb m.seat p

-- some mark of the sheet does so
abbrev pub some_mark : Sheet → (Mark → Bool) → Bool
some_mark sheet test = any_below sheet.mark_count (λ i. test (mark_of sheet i))

-- the owner of the slot at time t
abbrev pub owner_at : Sheet → ℕ → ℕ
owner_at sheet t = t % sheet.n

-- dark: the seat has a send mark in its own slots and a receive mark in all others
abbrev pub send_mark : Sheet → ℕ → Bool
send_mark sheet t = some_mark sheet (λ m. says send t (owner_at sheet t) m || darkens t (owner_at sheet t) m)

abbrev pub receive_mark : Sheet → ℕ → ℕ → Bool
receive_mark sheet t p = not (eqb p (owner_at sheet t)) && some_mark sheet (λ m. says receive t p m || darkens t p m)

-- what the step at time t is given
unfoldable pub marks_at : Sheet → ℕ → Marks
marks_at sheet t = record { send = send_mark sheet t; receive = seats_with sheet.n (receive_mark sheet t) }
