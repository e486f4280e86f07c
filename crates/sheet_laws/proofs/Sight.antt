-- The reader never looks past the byte at which it refuses. That byte is the one refused in 2 and 7, and the
-- last of the line in 3 to 6. In 1 there is none: the sheet ended. Assumes nothing.
use mathlib.Core.Path.{◌≡◌, refl, sym, ap, ◌∙◌}
use mathlib.Core.Bool.{Bool, true, false, cond}
use mathlib.Core.List.{List, ◌++◌}
use mathlib.Core.Logic.{◌⊎◌, ⊎_elim}
use mathlib.Core.Option.{Option, none, some}
use Prim.Native.Nat.{ℕ, zero, suc, ◌+◌, ◌-◌, ◌≤◌}
use native.Mathlib.Nat.{le_refl}
use native.Mathlib.Omega.{arith}
use lib.ListN.{length, get_or, set, length-append, get_or-append}
use lib.Dec.{ltb}
use borrow.Author.Tests.{lt-ltb, ltb-true}
use Rattle.limits.specs.Limits.{seats_least, seats_most, marks_most, slots_most, module_most}
use Rattle.limits.specs.Refusals.{number_of, of_line}
use Rattle.limits.specs.declared.Refusal.{Refusal}
use Rattle.limits.specs.declared.Refusal.TheVariants.{EndsEarly, WrongByte, OutsideLimits, ModuleTwice, BytesAfter}
use Rattle.sheet_lines.specs.Found.{Found, found, offence, and_then}
use Rattle.sheet_lines.specs.Bytes.{is_space, is_line_feed, is_kind, is_heard, byte_at, number_at}
use Rattle.sheet_lines.specs.Lines.{end_at, ended, within, line_at, spaced_at}
use Rattle.sheet.specs.Entries.{lines_at, count_line, entries_at, is_new, module_line, slot_line}
use Rattle.sheet.specs.Marks.{mark, no_mark, mark_offence, on_option, fields_at, mark_line}
use Rattle.sheet.specs.Sheets.{no_modules, no_marks, no_slots, sheet_from, sheet_in}
use Rattle.sheet.specs.declared.Mark.{Mark}
use Rattle.sheet.specs.declared.Sheet.{Sheet}
use Rattle.sheet_lines.proofs.ByteLaws.{not_both}
use Rattle.sheet.proofs.MarkLaws.{mark_offence_lem}
use Rattle.sheet_laws.specs.Sight.{Same, Stopped}
use Rattle.sheet_laws.proofs.Readers.{fewer, Stops, Sees, before, through, near, next_to, then_stops, then_sees, rests, tests, later, byte_sees, number_sees}

-- ---- lines

end_sees : (s : List ℕ) (at : ℕ) → Sees (at + 1) (λ t. end_at t at) s before
unfolding end_at
end_sees s at =
    then_sees (at + 1) (λ t. byte_at is_line_feed t at) (λ feed n t. found 1 n) s before near (byte_sees is_line_feed s at) (λ feed n e l. rests s n 1 l)

-- a value whose line ends behind it
ending : (s : List ℕ) (at value : ℕ) → Sees (at + 1) (λ t. and_then (end_at t at) (λ took n. found value n)) s before
ending s at value = then_sees (at + 1) (λ t. end_at t at) (λ took n t. found value n) s before near (end_sees s at) (λ took n e l. rests s n value l)

number_line_sees : (s : List ℕ) (at : ℕ) → Sees (at + 1) (λ t. ended t (number_at t at)) s before
unfolding ended
number_line_sees s at =
    then_sees (at + 1) (λ t. number_at t at) (λ value a t. and_then (end_at t a) (λ took n. found value n)) s through next_to (number_sees s at)
    (λ value a e l. ending s a value)

byte_line_sees : (can : ℕ → Bool) (s : List ℕ) (at : ℕ) → Sees (at + 1) (λ t. ended t (byte_at can t at)) s before
unfolding ended
byte_line_sees can s at =
    then_sees (at + 1) (λ t. byte_at can t at) (λ value a t. and_then (end_at t a) (λ took n. found value n)) s before near (byte_sees can s at)
    (λ value a e l. later (next_to a) (ending s a value))

line_sees : (least most : ℕ) (s : List ℕ) (at : ℕ) → Sees (at + 1) (λ t. line_at least most t at) s before
unfolding line_at
line_sees least most s at =
    then_sees (at + 1) (λ t. ended t (number_at t at)) (λ value n t. cond (within least most value) (found value n) (offence OutsideLimits at)) s before near
    (number_line_sees s at)
    (λ value n e l. tests s n (within least most value) value OutsideLimits at l ((number_line_sees s at).goes value n e).after refl)

module_sees : (s : List ℕ) (at k : ℕ) (modules : List ℕ) → Sees (at + 1) (λ t. module_line t at k modules) s before
unfolding module_line
module_sees s at k modules =
    then_sees (at + 1) (λ t. line_at 1 module_most t at) (λ number n t. cond (is_new number k modules) (found (set modules k number) n) (offence ModuleTwice at)) s
    before near (line_sees 1 module_most s at)
    (λ number n e l.
    tests s n (is_new number k modules) (set modules k number) ModuleTwice at l ((line_sees 1 module_most s at).goes number n e).after refl)

slot_sees : (s : List ℕ) (at k : ℕ) (slots : List ℕ) → Sees (at + 1) (λ t. slot_line t at k slots) s before
unfolding slot_line
slot_sees s at k slots =
    then_sees (at + 1) (λ t. ended t (byte_at is_heard t at)) (λ heard n t. found (set slots k heard) n) s before near (byte_line_sees is_heard s at)
    (λ heard n e l. rests s n (set slots k heard) l)

spaced_sees : (s : List ℕ) (at : ℕ) → Sees (at + 1) (λ t. spaced_at t at) s before
unfolding spaced_at
spaced_sees s at =
    then_sees (at + 1) (λ t. number_at t at) (λ value a t. and_then (byte_at is_space t a) (λ space n. found value n)) s through next_to (number_sees s at)
    (λ value a e l.
    then_sees (a + 1) (λ t. byte_at is_space t a) (λ space n t. found value n) s before near (byte_sees is_space s a) (λ space n e l. rests s n value l))

fields_sees : (s : List ℕ) (at : ℕ) → Sees (at + 1) (λ t. fields_at t at) s before
unfolding fields_at
fields_sees s at =
    then_sees (at + 1) (λ t. spaced_at t at)
    (λ time a t. and_then (spaced_at t a) (λ seat b. and_then (ended t (byte_at is_kind t b)) (λ kind n. found (mark time seat kind) n))) s before near
    (spaced_sees s at)
    (λ time a e l.
    later (next_to a)
    (then_sees (a + 1) (λ t. spaced_at t a) (λ seat b t. and_then (ended t (byte_at is_kind t b)) (λ kind n. found (mark time seat kind) n)) s before near
    (spaced_sees s a)
    (λ seat b e l.
    later (next_to b)
    (then_sees (b + 1) (λ t. ended t (byte_at is_kind t b)) (λ kind n t. found (mark time seat kind) n) s before near (byte_line_sees is_kind s b)
    (λ kind n e l. rests s n (mark time seat kind) l)))))

mark-sees : (n : ℕ) (s : List ℕ) (at k : ℕ) (marks : List Mark) → Sees (at + 1) (λ t. mark_line n t at k marks) s before
unfolding mark_line
mark-sees n s at k marks =
    then_sees (at + 1) (λ t. fields_at t at)
    (λ m next t. on_option (mark_offence n k (get_or marks (k - 1) no_mark) m) (found (set marks k m) next) (λ why. offence why at)) s before near (fields_sees s at)
    (λ m next e l. go m next l ((fields_sees s at).goes m next e).after (mark_offence n k (get_or marks (k - 1) no_mark) m) refl)
  where
    go : (m : Mark) (next : ℕ) → next ≤ length s → at + 1 ≤ next → (o : Option Refusal) → mark_offence n k (get_or marks (k - 1) no_mark) m ≡ o
        → Sees next (λ t. on_option o (found (set marks k m) next) (λ why. offence why at)) s before
    go m next l p none q = rests s next (set marks k m) l
    go m next l p (some why) q = tests s next false (set marks k m) why at l p (mark_offence_lem of_line refl refl refl n k (get_or marks (k - 1) no_mark) m why q)

-- ---- so many lines

module _ {A : Type 0} (line : List ℕ → ℕ → ℕ → List A → Found (List A)) (s : List ℕ) (one : (at k : ℕ) (entries : List A) → Sees (at + 1) (λ t. line t at k entries) s before) where
  lines_see : (more at k : ℕ) (entries : List A) → at ≤ length s → Sees at (λ t. lines_at (line t) more at k entries) s before
  unfolding lines_at
  lines_see zero at k entries l = rests s at entries l
  lines_see (suc more) at k entries l =
      then_sees at (λ t. line t at k entries) (λ entries n t. lines_at (line t) more n (k + 1) entries) s before near (later (next_to at) (one at k entries))
      (λ entries n e l. lines_see more n (k + 1) entries l)

-- ---- the sheet

last_stops : (s : List ℕ) (end : ℕ) (sheet : Sheet) → Stops end (λ t. cond (ltb end (length t)) (offence BytesAfter end) (found sheet end)) s
last_stops s end sheet =
    record { early = λ place e. early place (ltb end (length s)) e; other = λ why place n e. other why place (ltb end (length s)) refl e }
  where
    early : (place : ℕ) (b : Bool) → cond b (offence BytesAfter end) (found sheet end) ≡ offence EndsEarly place → place ≡ length s
    early place true h = let q : BytesAfter ≡ EndsEarly = cc in absurd (omega (arith, ap number_of q))
    early place false h = not_both EndsEarly (sym h)

    other : (why : Refusal) (place : ℕ) (b : Bool) → ltb end (length s) ≡ b → cond b (offence BytesAfter end) (found sheet end) ≡ offence why place
        → Stopped end (λ t. cond (ltb end (length t)) (offence BytesAfter end) (found sheet end)) s why place
    other why place true p h =
        let q : end ≡ place = cc in
        let l = ltb-true end (length s) p in
        record {
          seen = end + 1;
          after = omega arith;
          past = omega arith;
          inside = omega arith;
          here = λ x. omega arith;
          alike = λ t w. let y = w.also in rw (lt-ltb end (length t) (omega arith)) h;
        }
    other why place false p h = not_both why (sym h)

-- a count, and the lines after it
count_sees : (least most : ℕ) (s : List ℕ) (at : ℕ) → Sees at (λ t. count_line least most t at) s before
count_sees least most s at = later (next_to at) (line_sees least most s at)

sheet_stops : (s : List ℕ) → Stops 0 sheet_in s
unfolding sheet_in
sheet_stops s =
    then_stops 0 (λ t. count_line seats_least seats_most t 0) _ s before near (count_sees seats_least seats_most s 0)
    (λ n a e l.
    then_stops a (λ t. entries_at (module_line t) no_modules n a) _ s before near (lines_see module_line s (module_sees s) n a 0 no_modules l)
    (λ modules b e l.
    then_stops b (λ t. count_line 0 marks_most t b) _ s before near (count_sees 0 marks_most s b)
    (λ mark_count c e l.
    then_stops c (λ t. entries_at (mark_line n t) no_marks mark_count c) _ s before near (lines_see (mark_line n) s (mark-sees n s) mark_count c 0 no_marks l)
    (λ marks d e l.
    then_stops d (λ t. count_line 0 slots_most t d) _ s before near (count_sees 0 slots_most s d)
    (λ slot_count f e l.
    then_stops f (λ t. entries_at (slot_line t) no_slots slot_count f) _ s before near (lines_see slot_line s (slot_sees s) slot_count f 0 no_slots l)
    (λ slots end e l. last_stops s end (sheet_from n modules mark_count marks slot_count slots)))))))

-- 1 is given at the sheet's length
pub refused_early : (s : List ℕ) (place : ℕ) → sheet_in s ≡ offence EndsEarly place → place ≡ length s
refused_early s place e = (sheet_stops s).early place e

-- 2 to 7: the sheet is refused alike whatever stands after the bytes that were seen
pub refused_alike : (s : List ℕ) (why : Refusal) (place : ℕ) → (why ≡ EndsEarly → ⊥) → sheet_in s ≡ offence why place → Stopped 0 sheet_in s why place
refused_alike s why place n e = (sheet_stops s).other why place n e

-- 2 and 7: two sheets that are equal up to and including the byte refused are refused alike
pub refused_at_byte : (s t : List ℕ) (why : Refusal) (place : ℕ) → (why ≡ WrongByte) ⊎ (why ≡ BytesAfter) → sheet_in s ≡ offence why place
    → Same (place + 1) s t → sheet_in t ≡ offence why place
refused_at_byte s t why place h e w =
    let other : why ≡ EndsEarly → ⊥ =
    λ x. ⊎_elim (λ y. omega (arith, ap number_of (sym x ∙ y))) (λ y. omega (arith, ap number_of (sym x ∙ y))) h in
    let q = refused_alike s why place other e in
    q.alike t (rw (q.here h) w)

-- 2 to 7: bytes that are added to a refused sheet change nothing
pub refused_longer : (s more : List ℕ) (why : Refusal) (place : ℕ) → (why ≡ EndsEarly → ⊥) → sheet_in s ≡ offence why place
    → sheet_in (s ++ more) ≡ offence why place
refused_longer s more why place n e =
    let q = refused_alike s why place n e in
    let l = length-append s more in
    q.alike (s ++ more) (fewer q.inside (record { long = le_refl (length s); also = omega arith; bytes = λ i h. sym (get_or-append s more 0 i h) }))
