-- The refusal numbers of document 01, and what an answer says.
use Rattle.std.specs.Prelude.{Bool, true, false, ℕ, ⊤, Result, Ok, Err}
use Rattle.limits.specs.declared.Refusal.{Refusal}
use Rattle.limits.specs.declared.Refused.{Refused}
use Rattle.limits.specs.declared.Refusal.TheVariants.{EndsEarly, WrongByte, OutsideLimits, ModuleTwice, MarkNotAbove, WrongMark, BytesAfter, NoRoom, AtTheEnd, NotARing}

-- the table's first column: 1 the sheet ends where a byte is needed, 2 a byte that cannot stand there, 3 a
-- number outside its limits, 4 a module number on an earlier line too, 5 a mark not above the mark before, 6
-- a mark for a seat that cannot have it, 7 bytes after the last section, 8 no room for the records, 9 a step
-- at time 4,096, 10 not a ring
abbrev pub number_of : Refusal → ℕ
number_of EndsEarly = 1
number_of WrongByte = 2
number_of OutsideLimits = 3
number_of ModuleTwice = 4
number_of MarkNotAbove = 5
number_of WrongMark = 6
number_of BytesAfter = 7
number_of NoRoom = 8
number_of AtTheEnd = 9
number_of NotARing = 10

-- ---- who can give which

-- the reader of a sheet
abbrev pub of_sheet : Refusal → Bool
of_sheet EndsEarly = true
of_sheet WrongByte = true
of_sheet OutsideLimits = true
of_sheet ModuleTwice = true
of_sheet MarkNotAbove = true
of_sheet WrongMark = true
of_sheet BytesAfter = true
of_sheet NoRoom = false
of_sheet AtTheEnd = false
of_sheet NotARing = false

-- the reader, for what stands on a whole line: the place is the line's first byte
abbrev pub of_line : Refusal → Bool
of_line EndsEarly = false
of_line WrongByte = false
of_line OutsideLimits = true
of_line ModuleTwice = true
of_line MarkNotAbove = true
of_line WrongMark = true
of_line BytesAfter = false
of_line NoRoom = false
of_line AtTheEnd = false
of_line NotARing = false

-- a step
abbrev pub of_step : Refusal → Bool
of_step EndsEarly = false
of_step WrongByte = false
of_step OutsideLimits = false
of_step ModuleTwice = false
of_step MarkNotAbove = false
of_step WrongMark = true
of_step BytesAfter = false
of_step NoRoom = true
of_step AtTheEnd = true
of_step NotARing = true

-- ---- answers

-- what an answer says: done, or refused with a number and a place
pub data Told : Type 0 where
  done : Told
  refused : (number place : ℕ) → Told

-- what there is where it is done, and what there is where it is refused
abbrev pub on_done : {A : Type 0} → Told → A → A → A
on_done done a b = a
on_done (refused number place) a b = b

-- a reason, given at a place
abbrev pub refused_at : Refusal → ℕ → Refused
refused_at why place = record { why = why; place = place }

-- what comes of a call that hands on no more than whether it was refused
abbrev pub tells : Result ⊤ Refused → Told
tells (Ok nothing) = done
tells (Err r) = refused (number_of r.why) r.place
