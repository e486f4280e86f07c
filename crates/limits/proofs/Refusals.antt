-- No two reasons have one number; what an answer can say. Assumes nothing.
use mathlib.Core.Path.{◌≡◌, refl, sym, ap, ap₂, ◌∙◌}
use mathlib.Core.Logic.{◌⊎◌, inl, inr}
use Prim.Native.Nat.{ℕ}
use native.Mathlib.Omega.{arith}
use Rattle.std.specs.Prelude.{⊤, Result, Ok, Err}
use Rattle.limits.specs.Refusals.{number_of, Told, done, refused, refused_at, tells}
use Rattle.limits.specs.declared.Refusal.{Refusal}
use Rattle.limits.specs.declared.Refused.{Refused}
use Rattle.limits.specs.declared.Refusal.TheVariants.{EndsEarly, WrongByte, OutsideLimits, ModuleTwice, MarkNotAbove, WrongMark, BytesAfter, NoRoom, AtTheEnd, NotARing}
use lib.ListN.{get_or}
use mathlib.Core.List.{List, [], ◌∷◌}

-- the reasons in the order of their numbers
reasons : List Refusal
reasons = NotARing ∷ EndsEarly ∷ WrongByte ∷ OutsideLimits ∷ ModuleTwice ∷ MarkNotAbove ∷ WrongMark ∷ BytesAfter ∷ NoRoom ∷ AtTheEnd ∷ NotARing ∷ []

numbered : (a : Refusal) → get_or reasons (number_of a) NotARing ≡ a
unfolding reasons
numbered EndsEarly = refl
numbered WrongByte = refl
numbered OutsideLimits = refl
numbered ModuleTwice = refl
numbered MarkNotAbove = refl
numbered WrongMark = refl
numbered BytesAfter = refl
numbered NoRoom = refl
numbered AtTheEnd = refl
numbered NotARing = refl

pub one_reason : (a b : Refusal) → number_of a ≡ number_of b → a ≡ b
one_reason a b e = sym (numbered a) ∙ ap (λ (k : ℕ). get_or reasons k NotARing) e ∙ numbered b

-- ---- an answer

pub not_done : {X : Type 0} {number place : ℕ} → refused number place ≡ done → X
not_done e = let z : ◌≡◌ {A = ℕ} 0 1 = cc in absurd (omega arith)

-- an answer is one of the two, with the equation
pub told_is : (t : Told) → (t ≡ done) ⊎ ((number : ℕ) × (place : ℕ) × (t ≡ refused number place))
told_is done = inl refl
told_is (refused number place) = inr (number, place, refl)

-- what is refused is its number and its place
pub one_refused : (a b : Refused) → number_of a.why ≡ number_of b.why → a.place ≡ b.place → a ≡ b
one_refused a b n p = ap₂ refused_at (one_reason a.why b.why n) p

-- results that say the same are the same
pub one_told : (a b : Result ⊤ Refused) → tells a ≡ tells b → a ≡ b
one_told (Ok x) (Ok y) e = refl
one_told (Ok x) (Err b) e = not_done (sym e)
one_told (Err a) (Ok y) e = not_done e
one_told (Err a) (Err b) e =
    let n : number_of a.why ≡ number_of b.why = cc in
    let p : a.place ≡ b.place = cc in
    ap Err (one_refused a b n p)
