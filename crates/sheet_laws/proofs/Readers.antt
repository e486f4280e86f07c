-- What a reader has seen of a sheet when it answers, and that no more than that can change its answer: for
-- readers in turn, for bytes and for numbers. Assumes nothing.
use mathlib.Core.Path.{◌≡◌, refl, sym, ap, ap₂, ◌∙◌}
use mathlib.Core.Bool.{Bool, true, false, cond, false≢true}
use mathlib.Core.List.{List}
use mathlib.Core.Logic.{◌⊎◌, inl, inr, ⊎_elim}
use Prim.Native.Nat.{ℕ, zero, suc, ◌+◌, ◌*◌, ◌-◌, ◌≤◌, ◌<◌}
use native.Mathlib.Nat.{le_refl}
use native.Mathlib.Omega.{arith}
use lib.ListN.{length, get_or}
use lib.Dec.{ltb, eqb}
use borrow.Author.Tests.{lt-ltb, ltb-true}
use Rattle.limits.specs.Refusals.{number_of, of_line}
use Rattle.limits.specs.declared.Refusal.{Refusal}
use Rattle.limits.specs.declared.Refusal.TheVariants.{EndsEarly, WrongByte}
use Rattle.sheet_lines.specs.Found.{Found, found, offence, on_found, and_then}
use Rattle.sheet_lines.specs.Bytes.{is_digit, byte_at, digits_at, number_at}
use Rattle.sheet_lines.proofs.ByteLaws.{not_both, byte_found}
use Rattle.sheet_lines.proofs.LineLaws.{found_next, then_found}
use Rattle.sheet_laws.specs.Sight.{Same, Stopped}

pub fewer : {a b : ℕ} {s t : List ℕ} → a ≤ b → Same b s t → Same a s t
fewer l w = record { long = (let x = w.long in omega arith); also = (let x = w.also in omega arith); bytes = λ i h. w.bytes i (omega arith) }

byte_same : (can : ℕ → Bool) (s t : List ℕ) (at seen : ℕ) → Same seen s t → at < seen → byte_at can t at ≡ byte_at can s at
unfolding byte_at
byte_same can s t at seen w l =
    let x = w.long in
    let y = w.also in
    rw (lt-ltb at (length s) (omega arith), lt-ltb at (length t) (omega arith), w.bytes at l)

-- ---- what a reader has seen when it answers: a reader is a function of the sheet, and s is the sheet that it is given

module _ {A : Type 0} (from : ℕ) (read : List ℕ → Found A) (s : List ℕ) where
  pub record Stops : Type 0 where
    pub early : (place : ℕ) → read s ≡ offence EndsEarly place → place ≡ length s
    pub other : (why : Refusal) (place : ℕ) → (why ≡ EndsEarly → ⊥) → read s ≡ offence why place → Stopped from read s why place

  module _ (reach : ℕ → ℕ) where
    -- it finds something: it has seen the bytes before the next place, and for a number the one there too
    pub record Goes (a : A) (next : ℕ) : Type 0 where
      pub after : from ≤ next
      pub inside : next ≤ length s
      pub alike : (t : List ℕ) → Same (reach next) s t → read t ≡ found a next

    pub record Sees : Type 0 where
      pub stops : Stops
      pub goes : (a : A) (next : ℕ) → read s ≡ found a next → Goes a next

abbrev pub before : ℕ → ℕ
before next = next

abbrev pub through : ℕ → ℕ
through next = next + 1

pub near : (n : ℕ) → n ≤ before n
near n = le_refl n

pub next_to : (n : ℕ) → n ≤ through n
next_to n = omega arith

-- one reader after another
module _ {A B : Type 0} (from : ℕ) (read : List ℕ → Found A) (more : A → ℕ → List ℕ → Found B) (s : List ℕ) (reach : ℕ → ℕ) (far : (n : ℕ) → n ≤ reach n)
    (f : Sees from read s reach) where
  abbrev pub both : List ℕ → Found B
  both t = and_then (read t) (λ a next. more a next t)

  pub then_stops : ((a : A) (next : ℕ) → read s ≡ found a next → next ≤ length s → Stops (reach next) (more a next) s) → Stops from both s
  then_stops g = record { early = λ place e. early place (read s) refl e; other = λ why place n e. other why place n (read s) refl e }
    where
      -- an offence of the first reader is an offence of both
      first : (why : Refusal) (place : ℕ) (x : Refusal) (y : ℕ) → read s ≡ offence x y → ◌≡◌ {A = Found B} (offence x y) (offence why place) → read s ≡ offence why place
      first why place x y p h =
          let a : x ≡ why = cc in
          let b : y ≡ place = cc in
          p ∙ ap₂ (λ (x : Refusal) (y : ℕ). offence x y) a b

      early : (place : ℕ) (x : Found A) → read s ≡ x → and_then x (λ a next. more a next s) ≡ offence EndsEarly place → place ≡ length s
      early place (found a next) p h = (g a next p (f.goes a next p).inside).early place h
      early place (offence x y) p h = f.stops.early place (first EndsEarly place x y p h)

      other : (why : Refusal) (place : ℕ) → (why ≡ EndsEarly → ⊥) → (x : Found A) → read s ≡ x → and_then x (λ a next. more a next s) ≡ offence why place
          → Stopped from both s why place
      other why place n (found a next) p h =
          let o = f.goes a next p in
          let q = (g a next p o.inside).other why place n h in
          let l = o.after in
          let m = q.after in
          let r = far next in
          record {
            seen = q.seen;
            after = omega arith;
            past = q.past;
            inside = q.inside;
            here = q.here;
            alike = λ t w. rw (o.alike t (fewer m w)) (q.alike t w);
          }
      other why place n (offence x y) p h =
          let q = f.stops.other why place n (first why place x y p h) in
          record { seen = q.seen; after = q.after; past = q.past; inside = q.inside; here = q.here; alike = λ t w. rw (q.alike t w) }

  pub then_sees : ((a : A) (next : ℕ) → read s ≡ found a next → next ≤ length s → Sees (reach next) (more a next) s before) → Sees from both s before
  then_sees g = record { stops = then_stops (λ a next e l. (g a next e l).stops); goes = goes_on }
    where
      goes_on : (b : B) (next : ℕ) → both s ≡ found b next → Goes from both s before b next
      goes_on b next e =
          let p = then_found (read s) (λ a next. more a next s) b next e in
          let o = f.goes p.0 p.1 p.2 in
          let q = (g p.0 p.1 p.2 o.inside).goes b next p.3 in
          let l = o.after in
          let m = q.after in
          let r = far p.1 in
          record { after = omega arith; inside = q.inside; alike = λ t w. rw (o.alike t (fewer m w)) (q.alike t w) }

-- what no sheet can change any more
pub settled : {A : Type 0} (s : List ℕ) (n : ℕ) (answer : Found A) → n ≤ length s → ((a : A) (next : ℕ) → answer ≡ found a next → next ≡ n)
    → ((why : Refusal) (place : ℕ) → answer ≡ offence why place → (place < n) × (of_line why ≡ true)) → Sees n (λ t. answer) s before
settled s n answer l f g =
    record {
      stops =
          record {
            early = λ place e. absurd (false≢true (g EndsEarly place e).1);
            other = λ why place x e.
                let q = g why place e in
                record {
                  seen = n;
                  after = le_refl n;
                  past = q.0;
                  inside = l;
                  here = ⊎_elim (λ y. absurd (false≢true (sym (ap of_line y) ∙ q.1))) (λ y. absurd (false≢true (sym (ap of_line y) ∙ q.1)));
                  alike = λ t w. e;
                };
          };
      goes = λ a next e. let q = f a next e in record { after = omega arith; inside = omega arith; alike = λ t w. e };
    }

-- nothing is left to read
pub rests : {A : Type 0} (s : List ℕ) (n : ℕ) (a : A) → n ≤ length s → Sees n (λ t. found a n) s before
rests s n a l = settled s n (found a n) l (λ b next e. sym (found_next e)) (λ why place e. not_both why (sym e))

-- a test of a whole line
pub tests : {A : Type 0} (s : List ℕ) (n : ℕ) (ok : Bool) (a : A) (why : Refusal) (place : ℕ) → n ≤ length s → place + 1 ≤ n → of_line why ≡ true
    → Sees n (λ t. cond ok (found a n) (offence why place)) s before
tests s n true a why place l p o = rests s n a l
tests s n false a why place l p o =
    settled s n (offence why place) l (λ b next e. not_both why e)
    (λ x y e. let u : why ≡ x = cc in let v : place ≡ y = cc in (omega arith, rw (← u) o))

pub later : {A : Type 0} {a b : ℕ} {read : List ℕ → Found A} {s : List ℕ} {reach : ℕ → ℕ} → a ≤ b → Sees b read s reach → Sees a read s reach
later l f =
    record {
      stops =
          record {
            early = f.stops.early;
            other = λ why place n e.
                let q = f.stops.other why place n e in
                let m = q.after in
                record { seen = q.seen; after = omega arith; past = q.past; inside = q.inside; here = q.here; alike = q.alike };
          };
      goes = λ x next e. let q = f.goes x next e in let m = q.after in record { after = omega arith; inside = q.inside; alike = q.alike };
    }

-- ---- bytes and numbers

byte_offence : (can : ℕ → Bool) (s : List ℕ) (at : ℕ) (why : Refusal) (place : ℕ) → byte_at can s at ≡ offence why place
    → ((why ≡ WrongByte) × (place ≡ at) × (at < length s)) ⊎ ((why ≡ EndsEarly) × (place ≡ length s))
unfolding byte_at
byte_offence can s at why place e = go (ltb at (length s)) (can (get_or s at 0)) refl e
  where
    go : (t u : Bool) → ltb at (length s) ≡ t
        → cond t (cond u (found (get_or s at 0) (at + 1)) (offence WrongByte at)) (offence EndsEarly (length s)) ≡ offence why place
        → ((why ≡ WrongByte) × (place ≡ at) × (at < length s)) ⊎ ((why ≡ EndsEarly) × (place ≡ length s))
    go true true p h = not_both why (sym h)
    go true false p h = let a : WrongByte ≡ why = cc in let b : at ≡ place = cc in inl (sym a, sym b, ltb-true at (length s) p)
    go false u p h = let a : EndsEarly ≡ why = cc in let b : length s ≡ place = cc in inr (sym a, sym b)

pub byte_sees : (can : ℕ → Bool) (s : List ℕ) (at : ℕ) → Sees (at + 1) (λ t. byte_at can t at) s before
byte_sees can s at =
    record {
      stops =
          record {
            early = λ place e. ⊎_elim (λ q. absurd (omega (arith, ap number_of q.0))) (λ q. q.1) (byte_offence can s at EndsEarly place e);
            other = λ why place n e.
                ⊎_elim
                (λ q. record {
                  seen = at + 1;
                  after = le_refl (at + 1);
                  past = omega (arith, q.1);
                  inside = omega (arith, q.2);
                  here = λ x. omega (arith, q.1);
                  alike = λ t w. byte_same can s t at (at + 1) w (omega arith) ∙ e;
                })
                (λ q. absurd (n q.0))
                (byte_offence can s at why place e);
          };
      goes = λ b next e.
          let q = byte_found can s at b next e in
          let l = q.inside in
          let p = q.past in
          record { after = omega arith; inside = omega arith; alike = λ t w. byte_same can s t at next w (omega arith) ∙ e };
    }

digits_goes : (k v : ℕ) (s : List ℕ) (at w next : ℕ) → at ≤ length s → digits_at k v s at ≡ found w next → Goes at (λ t. digits_at k v t at) s through w next
unfolding digits_at
digits_goes zero v s at w next l e = let q = found_next e in record { after = omega arith; inside = omega arith; alike = λ t x. e }
digits_goes (suc k) v s at w next l e =
    go (λ digit n. digits_goes k (v * 10 + (digit - 48)) s n w next) (byte_at is_digit s at) refl e
  where
    go : ((digit n : ℕ) → n ≤ length s → digits_at k (v * 10 + (digit - 48)) s n ≡ found w next → Goes n (λ t. digits_at k (v * 10 + (digit - 48)) t n) s through w next)
        → (x : Found ℕ) → byte_at is_digit s at ≡ x
        → on_found x (λ digit n. digits_at k (v * 10 + (digit - 48)) s n) (λ why place. found v at) ≡ found w next
        → Goes at (λ t. on_found (byte_at is_digit t at) (λ digit n. digits_at k (v * 10 + (digit - 48)) t n) (λ why place. found v at)) s through w next
    go rest (found digit n) p h =
        let b = byte_found is_digit s at digit n p in
        let i = b.inside in
        let j = b.past in
        let q = rest digit n (omega arith) h in
        let m = q.after in
        record {
          after = omega arith;
          inside = q.inside;
          alike = λ t x. rw (byte_same is_digit s t at (next + 1) x (omega arith) ∙ p) (q.alike t x);
        }
    go rest (offence why place) p h =
        let q = found_next h in
        record {
          after = omega arith;
          inside = omega arith;
          alike = λ t x. rw (byte_same is_digit s t at (next + 1) x (omega arith) ∙ p) h;
        }

-- digits offend against nothing
digits_fine : (k v : ℕ) (s : List ℕ) (at : ℕ) (why : Refusal) (place : ℕ) → digits_at k v s at ≡ offence why place → ⊥
unfolding digits_at
digits_fine zero v s at why place e = not_both why (sym e)
digits_fine (suc k) v s at why place e = go (λ digit n. digits_fine k (v * 10 + (digit - 48)) s n why place) (byte_at is_digit s at) e
  where
    go : ((digit n : ℕ) → digits_at k (v * 10 + (digit - 48)) s n ≡ offence why place → ⊥)
        → (x : Found ℕ) → on_found x (λ digit n. digits_at k (v * 10 + (digit - 48)) s n) (λ why place. found v at) ≡ offence why place → ⊥
    go rest (found digit n) h = rest digit n h
    go rest (offence x y) h = not_both why (sym h)

abbrev rest : ℕ → ℕ → List ℕ → Found ℕ
rest digit n t = cond (eqb digit 48) (found 0 n) (digits_at 4 (digit - 48) t n)

pub number_sees : (s : List ℕ) (at : ℕ) → Sees (at + 1) (λ t. number_at t at) s through
unfolding number_at
number_sees s at =
    record {
      stops =
          then_stops (at + 1) (λ t. byte_at is_digit t at) rest s before near (byte_sees is_digit s at)
          (λ digit n p l.
          record {
            early = λ place e. absurd (fine digit n (eqb digit 48) EndsEarly place e);
            other = λ why place x e. absurd (fine digit n (eqb digit 48) why place e);
          });
      goes = λ v next e.
          let p = then_found (byte_at is_digit s at) (λ digit n. rest digit n s) v next e in
          let o = (byte_sees is_digit s at).goes p.0 p.1 p.2 in
          let a = o.after in
          let q = goes p.0 p.1 v next o.inside (eqb p.0 48) p.3 in
          let m = q.after in
          record { after = omega arith; inside = q.inside; alike = λ t w. rw (o.alike t (fewer (omega arith) w)) (q.alike t w) };
    }
  where
    fine : (digit n : ℕ) (b : Bool) (why : Refusal) (place : ℕ) → cond b (found 0 n) (digits_at 4 (digit - 48) s n) ≡ offence why place → ⊥
    fine digit n true why place e = not_both why (sym e)
    fine digit n false why place e = digits_fine 4 (digit - 48) s n why place e

    goes : (digit n v next : ℕ) → n ≤ length s → (b : Bool) → cond b (found 0 n) (digits_at 4 (digit - 48) s n) ≡ found v next
        → Goes n (λ t. cond b (found 0 n) (digits_at 4 (digit - 48) t n)) s through v next
    goes digit n v next l true e = let q = found_next e in record { after = omega arith; inside = omega arith; alike = λ t w. e }
    goes digit n v next l false e = digits_goes 4 (digit - 48) s n v next l e
