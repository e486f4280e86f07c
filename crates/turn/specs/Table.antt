-- The table of document 01: what a seat that expects the owner decides, and whom that takes from its set.
use Rattle.std.specs.Prelude.{Bool, true, false, List, [], ◌∷◌, ℕ, length}
use Rattle.seats.specs.Sets.{without_seat}
use Rattle.turn.specs.declared.View.{View}
use Rattle.turn.specs.declared.View.TheVariants.{Silent, Missed, Heard}
use Rattle.turn.specs.declared.Cause.{Cause}
use Rattle.turn.specs.declared.Cause.TheVariants.{A, B, C, D, E}
use Rattle.turn.specs.declared.Removal.{Removal}
use Rattle.turn.specs.declared.Removal.TheVariants.{Nobody, Itself, Owner, Both}
use Rattle.turn.specs.declared.Decision.{Decision}

-- the last two columns: who is removed, with the cause, and the new acknowledgement
pub record Row : Type 0 where
  pub removed : Removal
  pub ack : Bool

abbrev pub row : Removal → Bool → Row
row k a = record { removed = k; ack = a }

-- arrived, bit, own ack, own doubt
abbrev pub table : Bool → Bool → Bool → Bool → Row
table true true true d = row Nobody true
table true true false d = row (Itself B) true
table true false true false = row (Owner D) false
table true false true true = row (Itself E) false
table true false false d = row Nobody true
table false bit true d = row (Owner C) false
table false bit false d = row (Both A C) false

-- whether the bit arrived
abbrev pub arrived : View → Bool
arrived Silent = false
arrived Missed = false
arrived (Heard bit) = true

-- the bit, where it arrived
abbrev pub bit_of : View → Bool
bit_of Silent = false
bit_of Missed = false
bit_of (Heard bit) = bit

-- what a seat decides from what it sees and its own acknowledgement and doubt
abbrev pub decision_by : View → Row → Decision
decision_by v r = record { view = v; removal = r.removed; ack = r.ack }

abbrev pub decided : View → Bool → Bool → Decision
decided v ack doubt = decision_by v (table (arrived v) (bit_of v) ack doubt)

-- ---- whom a removal takes from the set

-- a seat that leaves a set, and why
pub record Gone : Type 0 where
  pub seat : ℕ
  pub cause : Cause

abbrev pub gone : ℕ → Cause → Gone
gone q c = record { seat = q; cause = c }

-- those whom p removes in the slot of b, in the order of their records
abbrev pub gone_by : ℕ → ℕ → Removal → List Gone
gone_by p b Nobody = []
gone_by p b (Itself c) = gone p c ∷ []
gone_by p b (Owner c) = gone b c ∷ []
gone_by p b (Both c d) = gone p c ∷ gone b d ∷ []

-- how many they are
abbrev pub count_of : Removal → ℕ
count_of k = length (gone_by 0 0 k)

-- a set without them
abbrev pub without_all : ℕ → List Gone → ℕ
without_all set [] = set
without_all set (g ∷ more) = without_all (without_seat set g.seat) more
