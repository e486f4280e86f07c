-- Who is sound, who had a first fault when, and the fault terms, in document 01's words.
use Rattle.std.specs.Prelude.{Some, true, ◌≡◌, ℕ, ◌+◌, ◌≤◌, ◌<◌}
use Rattle.turn.specs.Turn.{sound}
use Rattle.ring.specs.Ring.{seat_of}
use Rattle.ring.specs.declared.Ring.{Ring}

-- seat p is sound so far
pub record SoundSeat (r : Ring) (p : ℕ) : Type 0 where
  pub seat : p < r.n
  pub never : sound (seat_of r p) ≡ true

-- seat x had its first fault in slot t
pub record FirstFault (r : Ring) (x t : ℕ) : Type 0 where
  pub seat : x < r.n
  pub since : (seat_of r x).fault ≡ Some t

-- ---- the fault terms up to a step

-- the first faults of any two seats, up to and including step t, are at least so many slots apart
pub record Apart (slots : ℕ) (r : Ring) (t : ℕ) : Type 0 where
  pub spaced : {x y f g : ℕ} → FirstFault r x f → FirstFault r y g → (x ≡ y → ⊥) → f ≤ g → g ≤ t → f + slots ≤ g

-- seat p is sound after step t
pub record SoundAfter (r : Ring) (t p : ℕ) : Type 0 where
  pub seat : p < r.n
  pub later : {f : ℕ} → FirstFault r p f → t < f

-- at least two seats are sound after step t
pub record TwoSound (r : Ring) (t : ℕ) : Type 0 where
  pub one : ℕ
  pub other : ℕ
  pub differ : one ≡ other → ⊥
  pub one_sound : SoundAfter r t one
  pub other_sound : SoundAfter r t other

-- the fault terms hold up to step t
pub record TermsHold (r : Ring) (t : ℕ) : Type 0 where
  pub apart : Apart (r.n + 1) r t
  pub sound : TwoSound r t
