-- A good sheet has at most 10,956 bytes: line by line, the most digits that its limits leave. Assumes nothing.
use mathlib.Core.Path.{◌≡◌, refl}
use mathlib.Core.Bool.{Bool, true, false, cond}
use mathlib.Core.List.{List}
use Prim.Native.Nat.{ℕ, zero, suc, ◌+◌, ◌*◌, ◌-◌, ◌^◌, ◌≤◌, ◌<◌}
use native.Mathlib.Nat.{pow-suc, pow-le-pow_right, mul-suc, add-zero}
use native.Mathlib.Decide.{dec_lt}
use native.Mathlib.Omega.{arith}
use lib.ListN.{length}
use lib.Dec.{eqb, lit<}
use borrow.Author.Tests.{eqb-false}
use Rattle.limits.specs.Limits.{seats_least, seats_most, marks_most, slots_most, module_most}
use Rattle.sheet_lines.specs.Found.{Found, found, offence, on_found, and_then}
use Rattle.sheet_lines.specs.Bytes.{is_digit, is_space, is_line_feed, byte_at, digits_at, number_at}
use Rattle.sheet_lines.specs.Lines.{end_at, ended, line_at, spaced_at}
use Rattle.sheet.specs.Entries.{lines_at}
use Rattle.sheet.specs.Sheets.{sheet_in}
use Rattle.sheet.specs.declared.Sheet.{Sheet}
use Rattle.sheet_lines.proofs.ByteLaws.{byte_found}
use Rattle.sheet_lines.proofs.NumberLaws.{digit_range}
use Rattle.sheet_lines.proofs.LineLaws.{then_found, found_value, found_next, ended-found, line_within}
use Rattle.sheet.proofs.MarkLaws.{good_mark}
use Rattle.sheet_laws.specs.Length.{sheet_most}
use Rattle.sheet.proofs.Parts.{module_found, slot_found, mark_line_found, fields_found, sheet_found}

-- ---- numbers: a value says how long its digits are

-- what so many digits after a value of more than j digits come to
abbrev Long : ℕ → ℕ → ℕ → ℕ → Type 0
Long j at w next = (more : ℕ) × (next ≡ at + more) × (10 ^ (j + more) ≤ w)

long_none : (j v at w next : ℕ) → 10 ^ j ≤ v → found v at ≡ found w next → Long j at w next
long_none j v at w next l e = (0, omega (arith, found_next e), rw (add-zero, ← found_value e) l)

digits_long : (k j v : ℕ) (s : List ℕ) (at w next : ℕ) → 10 ^ j ≤ v → digits_at k v s at ≡ found w next → Long j at w next
unfolding digits_at
digits_long zero j v s at w next l e = long_none j v at w next l e
digits_long (suc k) j v s at w next l e =
    go (λ digit n. digits_long k (suc j) (v * 10 + (digit - 48)) s n w next (rw (pow-suc 10 j) (omega arith))) (byte_at is_digit s at) refl e
  where
    go : ((digit n : ℕ) → digits_at k (v * 10 + (digit - 48)) s n ≡ found w next → Long (suc j) n w next)
        → (x : Found ℕ) → byte_at is_digit s at ≡ x
        → on_found x (λ digit n. digits_at k (v * 10 + (digit - 48)) s n) (λ why place. found v at) ≡ found w next
        → Long j at w next
    go rest (found digit n) p h =
        let r = rest digit n h in
        let q : suc j + r.0 ≡ j + suc r.0 = omega arith in
        (suc r.0, omega (arith, r.1, (byte_found is_digit s at digit n p).past), rw (← q) r.2)
    go rest (offence why place) p h = long_none j v at w next l h

-- a value of at most suc k digits takes no more bytes
pub number_short : (s : List ℕ) (at v next : ℕ) → number_at s at ≡ found v next → (k : ℕ) → v < 10 ^ suc k → next ≤ at + suc k
unfolding number_at
number_short s at v next e k l =
    let p = then_found (byte_at is_digit s at) (λ digit n. cond (eqb digit 48) (found 0 n) (digits_at 4 (digit - 48) s n)) v next e in
    go p.0 p.1 (byte_found is_digit s at p.0 p.1 p.2).past (digit_range p.0 (byte_found is_digit s at p.0 p.1 p.2).passes).0 (eqb p.0 48) refl p.3
  where
    fits : (more : ℕ) → 10 ^ (0 + more) ≤ v → Dec (k < more) → more ≤ k
    fits more m (yes h) =
        let b : suc k ≤ 0 + more = omega arith in
        let a : 10 ^ suc k ≤ 10 ^ (0 + more) = pow-le-pow_right (lit< tt) b in
        absurd (omega arith)
    fits more m (no h) = omega arith

    go : (digit n : ℕ) → n ≡ at + 1 → 48 ≤ digit → (t : Bool) → eqb digit 48 ≡ t → cond t (found 0 n) (digits_at 4 (digit - 48) s n) ≡ found v next → next ≤ at + suc k
    go digit n q low true x h = omega (arith, found_next h)
    go digit n q low false x h =
        let d : 1 ≤ digit - 48 = let z = eqb-false digit 48 x in omega arith in
        let r = digits_long 4 0 (digit - 48) s n v next d h in
        let f = fits r.0 r.2 (dec_lt k r.0) in
        omega (arith, r.1)

-- ---- lines

-- a line's end takes one byte
pub end_short : (s : List ℕ) (at took next : ℕ) → end_at s at ≡ found took next → next ≤ at + 1
unfolding end_at
end_short s at took next e =
    let p = then_found (byte_at is_line_feed s at) (λ feed n. found 1 n) took next e in
    omega (arith, (byte_found is_line_feed s at p.0 p.1 p.2).past, found_next p.3)

pub line_short : (least most : ℕ) (s : List ℕ) (at v next : ℕ) → line_at least most s at ≡ found v next → (k : ℕ) → most < 10 ^ suc k → next ≤ at + suc k + 1
line_short least most s at v next e k l =
    let w = line_within least most s at v next e in
    let p = ended-found s (number_at s at) v next w.2 in
    let n = number_short s at v p.0 p.2 k (omega (arith, w.1)) in
    let f = end_short s p.0 p.1 next p.3 in
    omega arith

spaced_short : (s : List ℕ) (at v next : ℕ) → spaced_at s at ≡ found v next → (k : ℕ) → v < 10 ^ suc k → next ≤ at + suc k + 1
unfolding spaced_at
spaced_short s at v next e k l =
    let p = then_found (number_at s at) (λ value a. and_then (byte_at is_space s a) (λ space n. found value n)) v next e in
    let q = then_found (byte_at is_space s p.1) (λ space n. found p.0 n) v next p.3 in
    let x : p.0 ≡ v = found_value q.3 in
    let n = number_short s at p.0 p.1 p.2 k (omega arith) in
    omega (arith, (byte_found is_space s p.1 q.0 q.1 q.2).past, found_next q.3)

-- a byte alone on its line
lone_short : (can : ℕ → Bool) (s : List ℕ) (at v next : ℕ) → ended s (byte_at can s at) ≡ found v next → next ≤ at + 2
lone_short can s at v next e =
    let p = ended-found s (byte_at can s at) v next e in
    let f = end_short s p.0 p.1 next p.3 in
    omega (arith, (byte_found can s at v p.0 p.2).past)

-- lines of at most w bytes
lines_short : {A : Type 0} (line : ℕ → ℕ → List A → Found (List A)) (w : ℕ)
    → ((at k : ℕ) (before after : List A) (next : ℕ) → line at k before ≡ found after next → next ≤ at + w)
    → (more at k : ℕ) (before after : List A) (next : ℕ) → lines_at line more at k before ≡ found after next → next ≤ at + w * more
unfolding lines_at
lines_short line w h zero at k before after next e = omega (arith, found_next e)
lines_short line w h (suc more) at k before after next e =
    let p = then_found (line at k before) (λ entries n. lines_at line more n (k + 1) entries) after next e in
    let a = h at k before p.0 p.1 p.2 in
    let b = lines_short line w h more p.1 (k + 1) p.0 after next p.3 in
    omega (arith, mul-suc w more)

-- ---- the sheet

pub longest : (s : List ℕ) (sheet : Sheet) (end : ℕ) → sheet_in s ≡ found sheet end → length s ≤ sheet_most
longest s sheet end e =
    let g = sheet_found s sheet end e in
    let r = g.ring_is in
    let m = g.marks_is in
    let h = g.slots_is in
    let r1 = line_short seats_least seats_most s 0 _ _ r.counted 1 (lit< tt) in
    let r2 = lines_short _ 6 (λ at k b a n q. let z = line_short 1 module_most s at _ n (module_found s at k b a n q).read 4 (lit< tt) in omega arith) _ _ 0 _ _ _ r.lines in
    let m1 = line_short 0 marks_most s _ _ _ m.counted 2 (lit< tt) in
    let m2 = lines_short _ 10 (λ at k b a n q.
    let x = mark_line_found sheet.n s at k b a n q in
    let w = good_mark sheet.n k _ x.one x.good in
    let f = fields_found s at x.one n x.read in
    let t = spaced_short s at x.one.time f.seat_at f.time 3 (omega arith) in
    let p = spaced_short s f.seat_at x.one.seat f.kind_at f.seat 1 (omega arith) in
    let z = lone_short _ s f.kind_at _ n f.kind in
    omega arith) _ _ 0 _ _ _ m.lines in
    let h1 = line_short 0 slots_most s _ _ _ h.counted 3 (lit< tt) in
    let h2 = lines_short _ 2 (λ at k b a n q. lone_short _ s at _ n (slot_found s at k b a n q).read) _ _ 0 _ _ _ h.lines in
    omega arith
