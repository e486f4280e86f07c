-- What reading a sheet from left to right comes to: what was found and the place after it, or the first
-- offence and its place.
use Rattle.std.specs.Prelude.{ℕ}
use Rattle.limits.specs.declared.Refusal.{Refusal}

pub data Found (A : Type 0) : Type 0 where
  found : (value : A) (next : ℕ) → Found A
  offence : (why : Refusal) (place : ℕ) → Found A

abbrev pub on_found : {A B : Type 0} → Found A → (A → ℕ → B) → (Refusal → ℕ → B) → B
on_found (found value next) here refused = here value next
on_found (offence why place) here refused = refused why place

-- read on from the place after what was found; the first offence decides
abbrev pub and_then : {A B : Type 0} → Found A → (A → ℕ → Found B) → Found B
and_then part more = on_found part more offence
