-- Laws of lines, specs/Found.antt and specs/Lines.antt: what is known of what was found. Assumes nothing.
use mathlib.Core.Path.{◌≡◌, refl, ap, ◌∙◌}
use mathlib.Core.Bool.{Bool, true, false, cond}
use mathlib.Core.List.{List}
use Prim.Native.Nat.{ℕ, ◌≤◌}
use native.Mathlib.Omega.{arith}
use lib.Dec.{leb}
use borrow.Author.Tests.{leb-true}
use Rattle.lists.proofs.Tests.{and-true}
use Rattle.limits.specs.declared.Refusal.{Refusal}
use Rattle.limits.specs.declared.Refusal.TheVariants.{OutsideLimits}
use Rattle.sheet_lines.specs.Found.{Found, found, offence, and_then}
use Rattle.sheet_lines.specs.Bytes.{byte_at, number_at}
use Rattle.sheet_lines.specs.Lines.{end_at, ended, within, line_at, lone_at}
use Rattle.sheet_lines.proofs.ByteLaws.{not_both, byte_found}

-- ---- what was found, taken apart

-- what is found after something, is found after it was found
pub then_found : {A B : Type 0} (part : Found A) (more : A → ℕ → Found B) (b : B) (next : ℕ) → and_then part more ≡ found b next
    → (a : A) × (at : ℕ) × (part ≡ found a at) × (more a at ≡ found b next)
then_found (found a at) more b next e = (a, at, refl, e)
then_found (offence why place) more b next e = not_both _ e

-- what is found under a test, passed it
pub cond-found : {A : Type 0} (t : Bool) (part : Found A) (why : Refusal) (place : ℕ) (a : A) (next : ℕ) → cond t part (offence why place) ≡ found a next
    → (t ≡ true) × (part ≡ found a next)
cond-found true part why place a next e = (refl, e)
cond-found false part why place a next e = not_both _ e

pub found_value : {A : Type 0} {a b : A} {n m : ℕ} → found a n ≡ found b m → a ≡ b
found_value e = cc

pub found_next : {A : Type 0} {a b : A} {n m : ℕ} → found a n ≡ found b m → n ≡ m
found_next e = cc

-- ---- a value and its line

-- a line's end changes no value
pub ended-found : (s : List ℕ) (last : Found ℕ) (v next : ℕ) → ended s last ≡ found v next
    → (at : ℕ) × (took : ℕ) × (last ≡ found v at) × (end_at s at ≡ found took next)
unfolding ended
ended-found s last v next e =
    let p = then_found last (λ value at. and_then (end_at s at) (λ took next. found value next)) v next e in
    let q = then_found (end_at s p.1) (λ took next. found p.0 next) v next p.3 in
    (p.1, q.0, p.2 ∙ ap (λ (x : ℕ). found x p.1) (found_value q.3), q.2 ∙ ap (λ (x : ℕ). found q.0 x) (found_next q.3))

-- a number on its line is within its limits
pub line_within : (least most : ℕ) (s : List ℕ) (at v next : ℕ) → line_at least most s at ≡ found v next
    → (least ≤ v) × (v ≤ most) × (ended s (number_at s at) ≡ found v next)
unfolding line_at
line_within least most s at v next e =
    let p = then_found (ended s (number_at s at)) (λ value next. cond (within least most value) (found value next) (offence OutsideLimits at)) v next e in
    let q = cond-found (within least most p.0) (found p.0 p.1) OutsideLimits at v next p.3 in
    let w = and-true (leb least p.0) (leb p.0 most) q.0 in
    let x : p.0 ≡ v = found_value q.1 in
    let l = leb-true least p.0 w.0 in
    let m = leb-true p.0 most w.1 in
    (omega arith, omega arith, p.2 ∙ q.1)

-- a byte alone on its line
pub lone_found : (can : ℕ → Bool) (s : List ℕ) (at v next : ℕ) → lone_at can s at ≡ found v next → can v ≡ true
lone_found can s at v next e = let p = ended-found s (byte_at can s at) v next e in (byte_found can s at v p.0 p.2).passes
