-- What document 01 says of a good sheet, entry by entry. That every sheet read has it is a theorem; the
-- promise of `read` does not rest on it.
use Rattle.std.specs.Prelude.{ℕ, suc, ◌≤◌, ◌<◌, ◌≡◌, true, get_or}
use Rattle.limits.specs.Limits.{seats_least, seats_most, marks_most, slots_most, module_most}
use Rattle.sheet_lines.specs.Bytes.{is_kind, is_heard}
use Rattle.sheet.specs.Marks.{no_mark, above, allowed}
use Rattle.sheet.specs.declared.Mark.{Mark}
use Rattle.sheet.specs.declared.Sheet.{Sheet}

abbrev pub module_of : Sheet → ℕ → ℕ
module_of sheet i = get_or sheet.modules i 0

abbrev pub mark_of : Sheet → ℕ → Mark
mark_of sheet i = get_or sheet.marks i no_mark

abbrev pub heard_in : Sheet → ℕ → ℕ
heard_in sheet i = get_or sheet.slots i 0

pub record GoodSheet (sheet : Sheet) : Type 0 where
  -- 2 to 32 seats, with module numbers 1 to 65,535, all different
  pub seats : (seats_least ≤ sheet.n) × (sheet.n ≤ seats_most)
  pub numbers : (i : ℕ) → i < sheet.n → (1 ≤ module_of sheet i) × (module_of sheet i ≤ module_most)
  pub different : (i j : ℕ) → i < sheet.n → j < i → module_of sheet j ≡ module_of sheet i → ⊥
  -- 0 to 256 marks, of times below 4,096, seats below n and the three kinds; S for the owner and R for no
  -- owner; they ascend strictly
  pub marked : sheet.mark_count ≤ marks_most
  pub times : (i : ℕ) → i < sheet.mark_count → (mark_of sheet i).time < slots_most
  pub marked_seats : (i : ℕ) → i < sheet.mark_count → (mark_of sheet i).seat < sheet.n
  pub kinds : (i : ℕ) → i < sheet.mark_count → is_kind (mark_of sheet i).kind ≡ true
  pub fitting : (i : ℕ) → i < sheet.mark_count → allowed sheet.n (mark_of sheet i) ≡ true
  pub ascending : (i : ℕ) → suc i < sheet.mark_count → above (mark_of sheet i) (mark_of sheet (suc i)) ≡ true
  -- 0 to 4,096 slots, each `1`, `0` or `-`
  pub slotted : sheet.slot_count ≤ slots_most
  pub heard : (i : ℕ) → i < sheet.slot_count → is_heard (heard_in sheet i) ≡ true
  -- the entries past each count are zero
  pub no_modules : (i : ℕ) → sheet.n ≤ i → i < seats_most → module_of sheet i ≡ 0
  pub no_marks : (i : ℕ) → sheet.mark_count ≤ i → i < marks_most → mark_of sheet i ≡ no_mark
  pub no_slots : (i : ℕ) → sheet.slot_count ≤ i → i < slots_most → heard_in sheet i ≡ 0
