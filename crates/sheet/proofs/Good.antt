-- Every sheet that is read is good, as specs/Good.antt says it. Assumes nothing.
use mathlib.Core.Path.{◌≡◌, refl, sym, ap, ◌∙◌}
use mathlib.Core.Bool.{true, not}
use mathlib.Core.List.{List}
use mathlib.Core.Logic.{inl, inr}
use Prim.Native.Nat.{ℕ, zero, suc, ◌+◌, ◌-◌, ◌≤◌, ◌<◌}
use native.Mathlib.Decide.{dec_lt}
use native.Mathlib.Omega.{arith}
use Rattle.std.proofs.Common.{Ok}
use lib.ListN.{length, get_or, set, length-set, length-replicate, get_or-replicate}
use lib.Seq.{get_or-set_same, get_or-set_other}
use lib.Dec.{eqb}
use borrow.Author.Tests.{ne_eqb, eqb-false, not-true}
use Rattle.limits.specs.Limits.{seats_most, marks_most, slots_most, module_most}
use Rattle.lists.proofs.Tests.{all_at}
use Rattle.limits.specs.Refusals.{done, tells}
use Rattle.sheet_lines.specs.Found.{Found, found, offence}
use Rattle.sheet_lines.specs.Bytes.{is_kind, is_heard}
use Rattle.sheet.specs.Entries.{lines_at, is_new, module_line, slot_line}
use Rattle.sheet.specs.Marks.{no_mark, above, ascends, mark_line}
use Rattle.sheet.specs.Sheets.{no_modules, no_marks, no_slots, sheet_in, read_told, sheet_of, ReadPromise}
use Rattle.sheet.specs.Good.{GoodSheet}
use Rattle.sheet.specs.declared.Mark.{Mark}
use Rattle.sheet.specs.declared.Sheet.{Sheet}
use Rattle.sheet.specs.declared.Reading.{Reading}
use Rattle.sheet_lines.proofs.LineLaws.{then_found, line_within, lone_found}
use Rattle.sheet.proofs.MarkLaws.{Kept, good_mark}
use Rattle.limits.proofs.Refusals.{not_done}
use Rattle.sheet.proofs.Parts.{lines_others, module_found, slot_found, mark_line_found, fields_found, sheet_found}

-- ---- what holds of each entry, where it holds of the line that made it

module _ {A : Type 0} (d : A) (line : ℕ → ℕ → List A → Found (List A)) (Holds : ℕ → List A → A → Type 0) where
  -- a line makes entry k of the entries before it, and this holds of it
  abbrev pub Makes : Type 0
  Makes = (at k : ℕ) (before after : List A) (next : ℕ) → line at k before ≡ found after next → (a : A) × (after ≡ set before k a) × Holds k before a

  -- and looks only at the entries before k
  abbrev pub Looks : Type 0
  Looks = (k : ℕ) (before after : List A) (a : A) → ((j : ℕ) → j < k → get_or before j d ≡ get_or after j d) → Holds k before a → Holds k after a

  pub lines_each : Makes → Looks → (more at k : ℕ) (before after : List A) (next : ℕ) → lines_at line more at k before ≡ found after next
      → k + more ≤ length before → (i : ℕ) → k ≤ i → i < k + more → Holds i after (get_or after i d)
  unfolding lines_at
  lines_each makes looks zero at k before after next e l i low high = absurd (omega arith)
  lines_each makes looks (suc more) at k before after next e l i low high =
      let p = then_found (line at k before) (λ entries n. lines_at line more n (k + 1) entries) after next e in
      let q = makes at k before p.0 p.1 p.2 in
      let n : length p.0 ≡ length before = ap length q.1 ∙ length-set before k q.0 in
      let same : (j : ℕ) → j < k + 1 → get_or after j d ≡ get_or (set before k q.0) j d =
      λ j h. lines_others d line (λ at k b a n h. let m = makes at k b a n h in (m.0, m.1)) more p.1 (k + 1) p.0 after next p.3 j (inl h)
      ∙ ap (λ (x : List A). get_or x j d) q.1 in
      pick q.0 q.2 (λ j h. sym (same j (omega arith) ∙ get_or-set_other before k j q.0 d (omega arith)))
      (same k (omega arith) ∙ get_or-set_same before k q.0 d (omega arith))
      (λ h. lines_each makes looks more p.1 (k + 1) p.0 after next p.3 (omega arith) i (omega arith) (omega arith))
      (dec_lt k i)
    where
      pick : (a : A) → Holds k before a → ((j : ℕ) → j < k → get_or before j d ≡ get_or after j d) → get_or after k d ≡ a
          → (k < i → Holds i after (get_or after i d)) → Dec (k < i) → Holds i after (get_or after i d)
      pick a h f g rest (yes u) = rest u
      pick a h f g rest (no u) = let x : i ≡ k = omega arith in rw (x, g) (looks k before after a f h)

-- ---- the three sections

abbrev ModuleHolds : ℕ → List ℕ → ℕ → Type 0
ModuleHolds k before a = (1 ≤ a) × (a ≤ module_most) × ((j : ℕ) → j < k → get_or before j 0 ≡ a → ⊥)

abbrev MarkHolds : ℕ → ℕ → List Mark → Mark → Type 0
MarkHolds n k before m = Kept n k (get_or before (k - 1) no_mark) m × (is_kind m.kind ≡ true)

abbrev SlotHolds : ℕ → List ℕ → ℕ → Type 0
SlotHolds k before h = is_heard h ≡ true

new_differs : (number k : ℕ) (modules : List ℕ) → is_new number k modules ≡ true → (j : ℕ) → j < k → get_or modules j 0 ≡ number → ⊥
unfolding is_new
new_differs number k modules e j l =
    eqb-false (get_or modules j 0) number (not-true _ (all_at (λ j. not (eqb (get_or modules j 0) number)) k j e l))

-- a mark that is not the first is above the one before
above_last : (i : ℕ) (marks : List Mark) (m : Mark) → ascends (suc i) (get_or marks (suc i - 1) no_mark) m ≡ true → above (get_or marks i no_mark) m ≡ true
above_last i marks m e =
    let x : i ≡ suc i - 1 = omega arith in
    ap (λ (j : ℕ). above (get_or marks j no_mark) m) x ∙ rw (ne_eqb (suc i) 0 (omega arith)) at e

module _ (s : List ℕ) where
  makes_module : Makes 0 (module_line s) ModuleHolds
  makes_module at k before after next e =
      let f = module_found s at k before after next e in
      let w = line_within 1 module_most s at f.number next f.read in
      (f.number, f.kept, (w.0, w.1, new_differs f.number k before f.new))

  looks_module : Looks 0 (module_line s) ModuleHolds
  looks_module k before after a same h = (h.0, h.1, λ j l e. h.2 j l (same j l ∙ e))

  makes_slot : Makes 0 (slot_line s) SlotHolds
  makes_slot at k before after next e =
      let f = slot_found s at k before after next e in
      (f.heard, f.kept, lone_found is_heard s at f.heard next f.read)

  makes_mark : (n : ℕ) → Makes no_mark (mark_line n s) (MarkHolds n)
  makes_mark n at k before after next e =
      let f = mark_line_found n s at k before after next e in
      let p = fields_found s at f.one next f.read in
      (f.one, f.kept, (good_mark n k (get_or before (k - 1) no_mark) f.one f.good, lone_found is_kind s p.kind_at f.one.kind next p.kind))

  looks_mark : (n : ℕ) → Looks no_mark (mark_line n s) (MarkHolds n)
  looks_mark n zero before after m same h =
      (record { time = h.0.time; seat = h.0.seat; above = refl; allows = h.0.allows }, h.1)
  looks_mark n (suc k) before after m same h =
      let e = ap (λ (x : Mark). ascends (suc k) x m) (same (suc k - 1) (omega arith)) in
      (record { time = h.0.time; seat = h.0.seat; above = sym e ∙ h.0.above; allows = h.0.allows }, h.1)

-- ---- the sheet

pub read_good : (s : List ℕ) (sheet : Sheet) (end : ℕ) → sheet_in s ≡ found sheet end → GoodSheet sheet
unfolding no_modules no_marks no_slots
read_good s sheet end e =
    let g = sheet_found s sheet end e in
    let r = g.ring_is in
    let m = g.marks_is in
    let h = g.slots_is in
    let n = sheet.n in
    let ring = lines_each 0 (module_line s) ModuleHolds (makes_module s) (looks_module s) _ _ 0 _ _ _ r.lines (omega (arith, r.high, length-replicate {A = ℕ} seats_most 0)) in
    let marks = lines_each no_mark (mark_line n s) (MarkHolds n) (makes_mark s n) (looks_mark s n) _ _ 0 _ _ _ m.lines (omega (arith, m.high, length-replicate marks_most no_mark)) in
    let slots = lines_each 0 (slot_line s) SlotHolds (makes_slot s) (λ k b a x f y. y) _ _ 0 _ _ _ h.lines (omega (arith, h.high, length-replicate {A = ℕ} slots_most 0)) in
    record {
      seats = (r.low, r.high);
      numbers = λ i l. let x = ring i (omega arith) (omega arith) in (x.0, x.1);
      different = λ i j l k. (ring i (omega arith) (omega arith)).2 j k;
      marked = m.high;
      times = λ i l. (marks i (omega arith) (omega arith)).0.time;
      marked_seats = λ i l. (marks i (omega arith) (omega arith)).0.seat;
      kinds = λ i l. (marks i (omega arith) (omega arith)).1;
      fitting = λ i l. (marks i (omega arith) (omega arith)).0.allows;
      ascending = λ i l. above_last i sheet.marks (get_or sheet.marks (suc i) no_mark) (marks (suc i) (omega arith) (omega arith)).0.above;
      slotted = h.high;
      heard = λ i l. slots i (omega arith) (omega arith);
      no_modules = λ i l k.
          lines_others 0 (module_line s) (λ at k b a n q. let f = makes_module s at k b a n q in (f.0, f.1)) _ _ 0 _ _ _ r.lines i (inr (omega arith))
          ∙ get_or-replicate seats_most i 0 0 k;
      no_marks = λ i l k.
          lines_others no_mark (mark_line n s) (λ at k b a o q. let f = makes_mark s n at k b a o q in (f.0, f.1)) _ _ 0 _ _ _ m.lines i (inr (omega arith))
          ∙ get_or-replicate marks_most i no_mark no_mark k;
      no_slots = λ i l k.
          lines_others 0 (slot_line s) (λ at k b a n q. let f = makes_slot s at k b a n q in (f.0, f.1)) _ _ 0 _ _ _ h.lines i (inr (omega arith))
          ∙ get_or-replicate slots_most i 0 0 k;
    }

-- for callers: a reading that answers `Ok` has a good sheet beside the answer
pub reading_good : (bytes : List ℕ) (r : Reading) → ReadPromise bytes r → r.answer ≡ Ok tt → GoodSheet r.sheet
reading_good bytes r p a = go (sheet_in bytes) refl (ap tells (sym a) ∙ p.answer) p.sheet
  where
    go : (x : Found Sheet) → sheet_in bytes ≡ x → done ≡ read_told x → r.sheet ≡ sheet_of x → GoodSheet r.sheet
    go (found sheet end) q t s = rw s (read_good bytes sheet end q)
    go (offence why place) q t s = not_done (sym t)
