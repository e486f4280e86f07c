-- The printed page of document 01, 'What the program prints', as the bytes of its text.
use Rattle.std.specs.Prelude.{Bool, cond, ◌&&◌, List, [], ◌∷◌, ◌++◌, ℕ, leb, length, get_or}
use Rattle.lists.specs.Counted.{joined}
use Rattle.limits.specs.Limits.{seats_most}
use Rattle.limits.specs.Refusals.{number_of}
use Rattle.limits.specs.declared.Refusal.TheVariants.{NotARing}
use Rattle.seats.specs.Sets.{size_of}
use Rattle.turn.specs.Turn.{out}
use Rattle.trail.specs.Trail.{record_at, room_for}
use Rattle.trail.specs.declared.Record.{Record}
use Rattle.ring.specs.Ring.{seat_of}
use Rattle.ring.specs.Refusals.{Finding, within, outside, unfit}
use Rattle.ring.specs.declared.Ring.{Ring}
use Rattle.text.specs.Ascii.{space, line_feed}
use Rattle.text.specs.Decimal.{decimal}
use Rattle.run.specs.Outcome.{Heard, agrees, differs, Outcome, ran, refused, said, Result}
use Rattle.run.specs.declared.Ran.{Ran}

-- ---- lines

-- words parted by one space, ended by one line feed
abbrev pub line_of : List (List ℕ) → List ℕ
line_of [] = line_feed ∷ []
line_of (last ∷ []) = last ++ (line_feed ∷ [])
line_of (word ∷ next ∷ more) = word ++ (space ∷ []) ++ line_of (next ∷ more)

-- the lines 0 to k - 1 after their count
abbrev pub section : ℕ → (ℕ → List ℕ) → List ℕ
section k line = line_of (decimal k ∷ []) ++ joined k line

-- ---- the records: `time holder removed cause`, modules by number

-- the line of what a record says
abbrev pub line_of_record : List ℕ → Record → List ℕ
line_of_record modules e =
    line_of (
    decimal e.time
    ∷ decimal (get_or modules e.holder 0)
    ∷ decimal (get_or modules e.removed 0)
    ∷ (e.cause ∷ [])
    ∷ []
    )

unfoldable pub record_line : List ℕ → List ℕ → ℕ → List ℕ
record_line modules trail k = line_of_record modules (record_at trail k)

-- ---- the seats in order: `module set-size ack in` or `.. out`, ack as 0 or 1

-- in
abbrev pub in_word : List ℕ
in_word = 105 ∷ 110 ∷ []

-- out
abbrev pub out_word : List ℕ
out_word = 111 ∷ 117 ∷ 116 ∷ []

unfoldable pub seat_line : List ℕ → Ring → ℕ → List ℕ
seat_line modules ring p =
    let seat = seat_of ring p in
    line_of (
    decimal (get_or modules p 0)
    ∷ decimal (size_of seat.set)
    ∷ decimal (cond seat.ack 1 0)
    ∷ cond (out p seat) out_word in_word
    ∷ []
    )

-- ---- the two verdict lines

-- bus
abbrev pub bus_word : List ℕ
bus_word = 98 ∷ 117 ∷ 115 ∷ []

-- agrees
abbrev pub agrees_word : List ℕ
agrees_word = 97 ∷ 103 ∷ 114 ∷ 101 ∷ 101 ∷ 115 ∷ []

-- differs
abbrev pub differs_word : List ℕ
differs_word = 100 ∷ 105 ∷ 102 ∷ 102 ∷ 101 ∷ 114 ∷ 115 ∷ []

-- faults
abbrev pub faults_word : List ℕ
faults_word = 102 ∷ 97 ∷ 117 ∷ 108 ∷ 116 ∷ 115 ∷ []

-- within
abbrev pub within_word : List ℕ
within_word = 119 ∷ 105 ∷ 116 ∷ 104 ∷ 105 ∷ 110 ∷ []

-- outside
abbrev pub outside_word : List ℕ
outside_word = 111 ∷ 117 ∷ 116 ∷ 115 ∷ 105 ∷ 100 ∷ 101 ∷ []

-- `bus agrees` or `bus differs T`
abbrev pub bus_line : Heard → List ℕ
bus_line agrees = line_of (bus_word ∷ agrees_word ∷ [])
bus_line (differs t) = line_of (bus_word ∷ differs_word ∷ decimal t ∷ [])

-- `faults within` or `faults outside T`; a verdict that is refused has no line
abbrev pub faults_line : Finding → List ℕ
faults_line within = line_of (faults_word ∷ within_word ∷ [])
faults_line (outside t) = line_of (faults_word ∷ outside_word ∷ decimal t ∷ [])
faults_line (unfit number place) = []

-- ---- the page

-- refused
abbrev pub refused_word : List ℕ
refused_word = 114 ∷ 101 ∷ 102 ∷ 117 ∷ 115 ∷ 101 ∷ 100 ∷ []

-- `refused NUMBER PLACE`
abbrev pub refused_line : ℕ → ℕ → List ℕ
refused_line number place = line_of (refused_word ∷ decimal number ∷ decimal place ∷ [])

-- the records and the seats, each after their count
abbrev pub records_and_seats : Result → List ℕ
records_and_seats x = section x.ring.records (record_line x.modules x.trail) ++ section x.ring.n (seat_line x.modules x.ring)

-- the two verdict lines after theirs
abbrev pub verdict : List ℕ → List ℕ → List ℕ
verdict bus faults = line_of (decimal 2 ∷ []) ++ bus ++ faults

-- no more seats than a ring can have, and all the records in the trail: so is what any run leaves
abbrev pub printable : Result → Bool
printable x = leb x.ring.n seats_most && leb x.ring.records (room_for (length x.trail))

-- the three sections; what is no ring is refused 10
abbrev pub sections : Result → Heard → Finding → List ℕ
sections x bus finding =
    cond (printable x) (records_and_seats x ++ verdict (bus_line bus) (faults_line finding)) (refused_line (number_of NotARing) 0)

-- a run with its two verdicts; one that is refused prints as a refusal does
abbrev pub ran_page : Result → Heard → Finding → List ℕ
ran_page x bus within = sections x bus within
ran_page x bus (outside t) = sections x bus (outside t)
ran_page x bus (unfit number place) = refused_line number place

-- a refusal prints its line only
abbrev pub page_by : Result → Outcome → List ℕ
page_by x (ran bus finding) = ran_page x bus finding
page_by x (refused number place) = refused_line number place

unfoldable pub page_of : Result → List ℕ
page_of x = page_by x x.outcome

-- what a run gives back, with its trail
abbrev pub result_of : Ran → List ℕ → Result
result_of r trail = record { outcome = said r.answer; ring = r.ring; modules = r.modules; trail = trail }
