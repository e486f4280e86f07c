-- The limits of document 01, each once.
use Rattle.std.specs.Prelude.{Bool, ◌&&◌, ℕ, leb}

-- a ring has 2 to 32 seats
abbrev pub seats_least : ℕ
seats_least = 2

abbrev pub seats_most : ℕ
seats_most = 32

abbrev pub seats_stand : ℕ → Bool
seats_stand n = leb seats_least n && leb n seats_most

-- a run has at most 4,096 slots
abbrev pub slots_most : ℕ
slots_most = 4096

-- a trail has room for at most 1,024 records
abbrev pub room_most : ℕ
room_most = 1024

-- a sheet has at most 256 marks, and module numbers up to 65,535
abbrev pub marks_most : ℕ
marks_most = 256

abbrev pub module_most : ℕ
module_most = 65535
