-- A good sheet taken apart: what each of its lines has on it, its counts with their lines, and which entries
-- its lines change. Assumes nothing.
use mathlib.Core.Path.{◌≡◌, refl, sym, ap, ◌∙◌}
use mathlib.Core.Bool.{Bool, true, false, cond}
use mathlib.Core.List.{List}
use mathlib.Core.Logic.{◌⊎◌, inl, inr, ⊎_elim}
use mathlib.Core.Option.{Option, none, some}
use Prim.Native.Nat.{ℕ, zero, suc, ◌+◌, ◌-◌, ◌≤◌, ◌<◌}
use native.Mathlib.Omega.{arith}
use lib.ListN.{length, get_or, set}
use lib.Dec.{ltb}
use lib.Seq.{get_or-set_other}
use borrow.Author.Tests.{ltb-false}
use Rattle.limits.specs.Limits.{seats_least, seats_most, marks_most, slots_most, module_most}
use Rattle.limits.specs.declared.Refusal.{Refusal}
use Rattle.limits.specs.declared.Refusal.TheVariants.{ModuleTwice, BytesAfter}
use Rattle.sheet_lines.specs.Found.{Found, found, offence}
use Rattle.sheet_lines.specs.Bytes.{byte_at, is_kind, is_heard}
use Rattle.sheet_lines.specs.Lines.{ended, line_at, spaced_at}
use Rattle.sheet.specs.Entries.{lines_at, count_line, entries_at, is_new, module_line, slot_line}
use Rattle.sheet.specs.Marks.{mark, no_mark, mark_offence, on_option, fields_at, mark_line}
use Rattle.sheet.specs.Sheets.{no_modules, no_marks, no_slots, sheet_from, sheet_in}
use Rattle.sheet.specs.declared.Mark.{Mark}
use Rattle.sheet.specs.declared.Sheet.{Sheet}
use Rattle.sheet_lines.proofs.ByteLaws.{not_both}
use Rattle.sheet_lines.proofs.LineLaws.{then_found, cond-found, found_value, found_next, line_within}

-- ---- what a line that is found has on it, and what it makes of the entries

pub record Module (s : List ℕ) (at k : ℕ) (before after : List ℕ) (next : ℕ) : Type 0 where
  pub number : ℕ
  pub read : line_at 1 module_most s at ≡ found number next
  pub new : is_new number k before ≡ true
  pub kept : after ≡ set before k number

pub module_found : (s : List ℕ) (at k : ℕ) (before after : List ℕ) (next : ℕ) → module_line s at k before ≡ found after next → Module s at k before after next
unfolding module_line
module_found s at k before after next e =
    let p = then_found (line_at 1 module_most s at)
    (λ number next. cond (is_new number k before) (found (set before k number) next) (offence ModuleTwice at)) after next e in
    let q = cond-found (is_new p.0 k before) (found (set before k p.0) p.1) ModuleTwice at after next p.3 in
    record {
      number = p.0;
      read = p.2 ∙ ap (λ (n : ℕ). found p.0 n) (found_next q.1);
      new = q.0;
      kept = sym (found_value q.1);
    }

pub record Heard (s : List ℕ) (at k : ℕ) (before after : List ℕ) (next : ℕ) : Type 0 where
  pub heard : ℕ
  pub read : ended s (byte_at is_heard s at) ≡ found heard next
  pub kept : after ≡ set before k heard

pub slot_found : (s : List ℕ) (at k : ℕ) (before after : List ℕ) (next : ℕ) → slot_line s at k before ≡ found after next → Heard s at k before after next
unfolding slot_line
slot_found s at k before after next e =
    let p = then_found (ended s (byte_at is_heard s at)) (λ heard next. found (set before k heard) next) after next e in
    record {
      heard = p.0;
      read = p.2 ∙ ap (λ (n : ℕ). found p.0 n) (found_next p.3);
      kept = sym (found_value p.3);
    }

pub record Marked (n : ℕ) (s : List ℕ) (at k : ℕ) (before after : List Mark) (next : ℕ) : Type 0 where
  pub one : Mark
  pub read : fields_at s at ≡ found one next
  pub good : mark_offence n k (get_or before (k - 1) no_mark) one ≡ none
  pub kept : after ≡ set before k one

option_found : {A : Type 0} (o : Option Refusal) (part : Found A) (place : ℕ) (a : A) (next : ℕ) → on_option o part (λ why. offence why place) ≡ found a next
    → (o ≡ none) × (part ≡ found a next)
option_found none part place a next e = (refl, e)
option_found (some why) part place a next e = not_both _ e

pub mark_line_found : (n : ℕ) (s : List ℕ) (at k : ℕ) (before after : List Mark) (next : ℕ) → mark_line n s at k before ≡ found after next
    → Marked n s at k before after next
unfolding mark_line
mark_line_found n s at k before after next e =
    let last = get_or before (k - 1) no_mark in
    let p = then_found (fields_at s at) (λ m next. on_option (mark_offence n k last m) (found (set before k m) next) (λ why. offence why at)) after next e in
    let q = option_found (mark_offence n k last p.0) (found (set before k p.0) p.1) at after next p.3 in
    record {
      one = p.0;
      read = p.2 ∙ ap (λ (n : ℕ). found p.0 n) (found_next q.1);
      good = q.0;
      kept = sym (found_value q.1);
    }

-- the parts of a mark line
pub record Fields (s : List ℕ) (at : ℕ) (m : Mark) (next : ℕ) : Type 0 where
  pub seat_at : ℕ
  pub kind_at : ℕ
  pub time : spaced_at s at ≡ found m.time seat_at
  pub seat : spaced_at s seat_at ≡ found m.seat kind_at
  pub kind : ended s (byte_at is_kind s kind_at) ≡ found m.kind next

pub fields_found : (s : List ℕ) (at : ℕ) (m : Mark) (next : ℕ) → fields_at s at ≡ found m next → Fields s at m next
unfolding fields_at
fields_found s at m next e =
    let a = then_found (spaced_at s at) _ m next e in
    let b = then_found (spaced_at s a.1) _ m next a.3 in
    let k = then_found (ended s (byte_at is_kind s b.1)) _ m next b.3 in
    let x : mark a.0 b.0 k.0 ≡ m = found_value k.3 in
    record {
      seat_at = a.1;
      kind_at = b.1;
      time = a.2 ∙ ap (λ (m : Mark). found m.time a.1) x;
      seat = b.2 ∙ ap (λ (m : Mark). found m.seat b.1) x;
      kind = k.2 ∙ ap (λ (m : Mark). found m.kind k.1) x ∙ ap (λ (n : ℕ). found m.kind n) (found_next k.3);
    }

-- ---- a good sheet

-- a count within its limits, and as many lines
pub record Counted {A : Type 0} (least most : ℕ) (line : ℕ → ℕ → List A → Found (List A)) (empty : List A) (s : List ℕ) (at count : ℕ) (entries : List A) (next : ℕ) : Type 0 where
  pub first : ℕ
  pub counted : count_line least most s at ≡ found count first
  pub lines : entries_at line empty count first ≡ found entries next
  pub low : least ≤ count
  pub high : count ≤ most

both_found : {A : Type 0} (least most : ℕ) (line : ℕ → ℕ → List A → Found (List A)) (empty : List A) (s : List ℕ) (at count first : ℕ) (entries : List A) (next : ℕ)
    → count_line least most s at ≡ found count first → entries_at line empty count first ≡ found entries next → Counted least most line empty s at count entries next
both_found least most line empty s at count first entries next e l =
    let w = line_within least most s at count first e in
    record { first = first; counted = e; lines = l; low = w.0; high = w.1 }

pub record Good (s : List ℕ) (sheet : Sheet) (end : ℕ) : Type 0 where
  pub marks_at : ℕ
  pub slots_at : ℕ
  pub ring_is : Counted seats_least seats_most (module_line s) no_modules s 0 sheet.n sheet.modules marks_at
  pub marks_is : Counted 0 marks_most (mark_line sheet.n s) no_marks s marks_at sheet.mark_count sheet.marks slots_at
  pub slots_is : Counted 0 slots_most (slot_line s) no_slots s slots_at sheet.slot_count sheet.slots end
  pub all : length s ≤ end

test_found : {A : Type 0} (t : Bool) (place : ℕ) (a b : A) (n m : ℕ) → cond t (offence BytesAfter place) (found a n) ≡ found b m → (t ≡ false) × (found a n ≡ found b m)
test_found true place a b n m e = not_both _ e
test_found false place a b n m e = (refl, e)

moved : {s : List ℕ} {a b : Sheet} {n m : ℕ} → found a n ≡ found b m → Good s a n → Good s b m
moved e g = rw (← found_value e, ← found_next e) g

pub sheet_found : (s : List ℕ) (sheet : Sheet) (end : ℕ) → sheet_in s ≡ found sheet end → Good s sheet end
unfolding sheet_in
sheet_found s sheet end e =
    let n = then_found (count_line seats_least seats_most s 0) _ sheet end e in
    let ring = then_found (entries_at (module_line s) no_modules n.0 n.1) _ sheet end n.3 in
    let m = then_found (count_line 0 marks_most s ring.1) _ sheet end ring.3 in
    let marks = then_found (entries_at (mark_line n.0 s) no_marks m.0 m.1) _ sheet end m.3 in
    let h = then_found (count_line 0 slots_most s marks.1) _ sheet end marks.3 in
    let slots = then_found (entries_at (slot_line s) no_slots h.0 h.1) _ sheet end h.3 in
    let whole = sheet_from n.0 ring.0 m.0 marks.0 h.0 slots.0 in
    let t = test_found (ltb slots.1 (length s)) slots.1 whole sheet slots.1 end slots.3 in
    moved t.1
    (record {
      marks_at = ring.1;
      slots_at = marks.1;
      ring_is = both_found _ _ _ _ _ _ _ _ _ _ n.2 ring.2;
      marks_is = both_found _ _ _ _ _ _ _ _ _ _ m.2 marks.2;
      slots_is = both_found _ _ _ _ _ _ _ _ _ _ h.2 slots.2;
      all = ltb-false slots.1 (length s) t.0;
    })

-- ---- entries past a count

module _ {A : Type 0} (d : A) (line : ℕ → ℕ → List A → Found (List A)) where
  -- a line changes its own entry and no other
  abbrev pub Keeps : Type 0
  Keeps = (at k : ℕ) (before after : List A) (next : ℕ) → line at k before ≡ found after next → (a : A) × (after ≡ set before k a)

  -- so that all entries but theirs stay as they were
  pub lines_others : Keeps → (more at k : ℕ) (before after : List A) (next : ℕ) → lines_at line more at k before ≡ found after next
      → (i : ℕ) → (i < k) ⊎ (k + more ≤ i) → get_or after i d ≡ get_or before i d
  unfolding lines_at
  lines_others keeps zero at k before after next e i l = ap (λ (x : List A). get_or x i d) (sym (found_value e))
  lines_others keeps (suc more) at k before after next e i l =
      let p = then_found (line at k before) (λ entries next. lines_at line more next (k + 1) entries) after next e in
      let q = keeps at k before p.0 p.1 p.2 in
      lines_others keeps more p.1 (k + 1) p.0 after next p.3 i (⊎_elim (λ h. inl (omega arith)) (λ h. inr (omega arith)) l)
      ∙ ap (λ (x : List A). get_or x i d) q.1
      ∙ get_or-set_other before k i q.0 d (⊎_elim (λ h. omega arith) (λ h. omega arith) l)
