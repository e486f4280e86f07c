-- The reader of sheets gives no refusal but those of a sheet, 1 to 7. Assumes nothing.
use mathlib.Core.Path.{◌≡◌, refl}
use mathlib.Core.Bool.{Bool, true, false, cond}
use mathlib.Core.List.{List}
use mathlib.Core.Option.{Option, none, some}
use Prim.Native.Nat.{ℕ, zero, suc, ◌+◌, ◌*◌, ◌-◌}
use lib.Dec.{ltb, eqb}
use lib.ListN.{length, get_or, set}
use Rattle.limits.specs.Limits.{seats_least, seats_most, marks_most, slots_most, module_most}
use Rattle.limits.specs.Refusals.{of_sheet}
use Rattle.limits.specs.declared.Refusal.{Refusal}
use Rattle.limits.specs.declared.Refusal.TheVariants.{EndsEarly, WrongByte, OutsideLimits, ModuleTwice, BytesAfter}
use Rattle.sheet_lines.specs.Found.{Found, found, offence, on_found, and_then}
use Rattle.sheet_lines.specs.Bytes.{is_digit, is_space, is_line_feed, is_kind, is_heard, byte_at, digits_at, number_at}
use Rattle.sheet_lines.specs.Lines.{end_at, ended, within, line_at, spaced_at}
use Rattle.sheet.specs.Entries.{lines_at, count_line, entries_at, is_new, module_line, slot_line}
use Rattle.sheet.specs.Marks.{mark, no_mark, mark_offence, on_option, fields_at, mark_line}
use Rattle.sheet.specs.Sheets.{no_modules, no_marks, no_slots, sheet_from, sheet_in}
use Rattle.sheet.specs.declared.Mark.{Mark}
use Rattle.sheet.proofs.MarkLaws.{mark_offence_lem}

-- ---- what is said of a reading

abbrev Only : {A : Type 0} → Found A → Type 0
Only f = (why : Refusal) (place : ℕ) → f ≡ offence why place → of_sheet why ≡ true

only_found : {A : Type 0} (a : A) (n : ℕ) → Only (found a n)
only_found a n why place e = absurd (cc)

only_offence : {A : Type 0} (why : Refusal) (place : ℕ) → of_sheet why ≡ true → Only {A = A} (offence why place)
only_offence why place l why' place' e = let q : why ≡ why' = cc in rw (← q) l

only_cond : {A : Type 0} (b : Bool) (f g : Found A) → Only f → Only g → Only (cond b f g)
only_cond true f g x y = x
only_cond false f g x y = y

only_on : {A B : Type 0} (f : Found A) (g : A → ℕ → Found B) (h : Refusal → ℕ → Found B) → ((a : A) (n : ℕ) → Only (g a n))
    → ((why : Refusal) (place : ℕ) → Only (h why place)) → Only (on_found f g h)
only_on (found a n) g h x y = x a n
only_on (offence why place) g h x y = y why place

only_then : {A B : Type 0} (f : Found A) (g : A → ℕ → Found B) → Only f → ((a : A) (n : ℕ) → Only (g a n)) → Only (and_then f g)
only_then (found a n) g x y = y a n
only_then (offence why place) g x y = only_offence why place (x why place refl)

-- ---- bytes and numbers

byte_only : (can : ℕ → Bool) (s : List ℕ) (at : ℕ) → Only (byte_at can s at)
unfolding byte_at
byte_only can s at =
    only_cond (ltb at (length s)) _ _
    (only_cond (can (get_or s at 0)) _ _ (only_found _ _) (only_offence WrongByte at refl))
    (only_offence EndsEarly (length s) refl)

digits_only : (k value : ℕ) (s : List ℕ) (at : ℕ) → Only (digits_at k value s at)
unfolding digits_at
digits_only zero value s at = only_found value at
digits_only (suc k) value s at =
    only_on (byte_at is_digit s at) _ _ (λ digit next. digits_only k (value * 10 + (digit - 48)) s next) (λ why place. only_found value at)

number_only : (s : List ℕ) (at : ℕ) → Only (number_at s at)
unfolding number_at
number_only s at =
    only_then (byte_at is_digit s at) _ (byte_only is_digit s at)
    (λ digit next. only_cond (eqb digit 48) _ _ (only_found 0 next) (digits_only 4 (digit - 48) s next))

-- ---- lines

end_only : (s : List ℕ) (at : ℕ) → Only (end_at s at)
unfolding end_at
end_only s at = only_then (byte_at is_line_feed s at) _ (byte_only is_line_feed s at) (λ feed next. only_found 1 next)

ended_only : (s : List ℕ) (last : Found ℕ) → Only last → Only (ended s last)
unfolding ended
ended_only s last x = only_then last _ x (λ value at. only_then (end_at s at) _ (end_only s at) (λ took next. only_found value next))

line_only : (least most : ℕ) (s : List ℕ) (at : ℕ) → Only (line_at least most s at)
unfolding line_at
line_only least most s at =
    only_then (ended s (number_at s at)) _ (ended_only s (number_at s at) (number_only s at))
    (λ value next. only_cond (within least most value) _ _ (only_found value next) (only_offence OutsideLimits at refl))

module_only : (s : List ℕ) (at k : ℕ) (modules : List ℕ) → Only (module_line s at k modules)
unfolding module_line
module_only s at k modules =
    only_then (line_at 1 module_most s at) _ (line_only 1 module_most s at)
    (λ number next. only_cond (is_new number k modules) _ _ (only_found (set modules k number) next) (only_offence ModuleTwice at refl))

slot_only : (s : List ℕ) (at k : ℕ) (slots : List ℕ) → Only (slot_line s at k slots)
unfolding slot_line
slot_only s at k slots =
    only_then (ended s (byte_at is_heard s at)) _ (ended_only s (byte_at is_heard s at) (byte_only is_heard s at)) (λ heard next. only_found (set slots k heard) next)

spaced_only : (s : List ℕ) (at : ℕ) → Only (spaced_at s at)
unfolding spaced_at
spaced_only s at =
    only_then (number_at s at) _ (number_only s at) (λ value at. only_then (byte_at is_space s at) _ (byte_only is_space s at) (λ space next. only_found value next))

fields_only : (s : List ℕ) (at : ℕ) → Only (fields_at s at)
unfolding fields_at
fields_only s at =
    only_then (spaced_at s at) _ (spaced_only s at)
    (λ time at. only_then (spaced_at s at) _ (spaced_only s at)
    (λ seat at. only_then (ended s (byte_at is_kind s at)) _ (ended_only s (byte_at is_kind s at) (byte_only is_kind s at))
    (λ kind next. only_found (mark time seat kind) next)))

option_only : {A : Type 0} (o : Option Refusal) (f : Found A) (at : ℕ) → ((why : Refusal) → o ≡ some why → of_sheet why ≡ true) → Only f
    → Only (on_option o f (λ why. offence why at))
option_only none f at x y = y
option_only (some why) f at x y = only_offence why at (x why refl)

mark_only : (n : ℕ) (s : List ℕ) (at k : ℕ) (marks : List Mark) → Only (mark_line n s at k marks)
unfolding mark_line
mark_only n s at k marks =
    let last = get_or marks (k - 1) no_mark in
    only_then (fields_at s at) _ (fields_only s at)
    (λ m next. option_only (mark_offence n k last m) _ at (mark_offence_lem of_sheet refl refl refl n k last m) (only_found (set marks k m) next))

-- ---- so many lines

lines_only : {S : Type 0} (line : ℕ → ℕ → S → Found S) → ((at k : ℕ) (e : S) → Only (line at k e)) → (more at k : ℕ) (e : S) → Only (lines_at line more at k e)
unfolding lines_at
lines_only line x zero at k e = only_found e at
lines_only line x (suc more) at k e = only_then (line at k e) _ (x at k e) (λ entries next. lines_only line x more next (k + 1) entries)

-- ---- the sheet

pub reader_refusals : (bytes : List ℕ) (why : Refusal) (place : ℕ) → sheet_in bytes ≡ offence why place → of_sheet why ≡ true
unfolding sheet_in
reader_refusals bytes =
    only_then (count_line seats_least seats_most bytes 0) _ (line_only seats_least seats_most bytes 0)
    (λ n at. only_then (entries_at (module_line bytes) no_modules n at) _ (lines_only (module_line bytes) (module_only bytes) n at 0 no_modules)
    (λ modules at. only_then (count_line 0 marks_most bytes at) _ (line_only 0 marks_most bytes at)
    (λ mark_count at. only_then (entries_at (mark_line n bytes) no_marks mark_count at) _ (lines_only (mark_line n bytes) (mark_only n bytes) mark_count at 0 no_marks)
    (λ marks at. only_then (count_line 0 slots_most bytes at) _ (line_only 0 slots_most bytes at)
    (λ slot_count at. only_then (entries_at (slot_line bytes) no_slots slot_count at) _ (lines_only (slot_line bytes) (slot_only bytes) slot_count at 0 no_slots)
    (λ slots end.
    only_cond (ltb end (length bytes)) _ _ (only_offence BytesAfter end refl) (only_found (sheet_from n modules mark_count marks slot_count slots) end)))))))
