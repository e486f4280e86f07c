-- What the functions that write the page promise each other: their text, and the most bytes that it has.
use Rattle.std.specs.Prelude.{List, [], ◌∷◌, ◌++◌, ◌≡◌, ℕ, ◌+◌, ◌*◌, ◌<◌, ◌≤◌, ⊤, length}
use Rattle.std.specs.Borrow.{MutBor}
use Rattle.limits.specs.Limits.{seats_most, room_most}
use Rattle.run.specs.Outcome.{Result}
use Rattle.text.specs.Decimal.{decimal}
use Rattle.text.specs.Lent.{with_text}
use Rattle.text.specs.declared.Lent.{Lent}
use Rattle.report.specs.Page.{line_of, records_and_seats}
use Rattle.report.specs.Promise.{record_most}

-- the most bytes in the line of a count, of a seat and in the two verdict lines: no number in them has more than
-- five digits
abbrev pub count_most : ℕ
count_most = 6

abbrev pub seat_most : ℕ
seat_most = 22

abbrev pub bus_most : ℕ
bus_most = 18

abbrev pub faults_most : ℕ
faults_most = 21

-- the page up to its last line, and the most bytes in it
abbrev pub up_to_faults : Result → List ℕ → List ℕ
up_to_faults x bus = records_and_seats x ++ line_of (decimal 2 ∷ []) ++ bus

abbrev pub up_to_faults_most : ℕ
up_to_faults_most = count_most + record_most * room_most + (count_most + seat_most * seats_most) + count_most + bus_most

-- the text is written, and has at most so many bytes
pub record Writes (text : List ℕ) (most : ℕ) (before after : Lent) : Type 0 where
  pub done : after ≡ with_text before text
  pub short : length text ≤ most

-- what writes a line by its number: each call of it with a k below the count writes line k, of at most so many
-- bytes
abbrev pub WritesEach : (MutBor Lent → ℕ → ⊤ → MutBor Lent → Type 0) → ℕ → (ℕ → List ℕ) → ℕ → Type 0
WritesEach call count line most = (x : MutBor Lent) (k : ℕ) (y : MutBor Lent) → k < count → call x k tt y → Writes (line k) most x.now y.now
