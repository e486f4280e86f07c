-- What the reader's answer says of the run. Assumes nothing.
use mathlib.Core.Path.{◌≡◌, refl, sym, ap, ap₂, ◌∙◌, subst}
use mathlib.Core.List.{List}
use mathlib.Core.Logic.{◌⊎◌, inl, inr}
use Prim.Native.Nat.{ℕ}
use Rattle.std.specs.Prelude.{Ok, Err}
use Rattle.limits.specs.Refusals.{number_of, tells}
use Rattle.limits.specs.declared.Refused.{Refused}
use Rattle.limits.specs.declared.Refusal.{Refusal}
use Rattle.ring.specs.Ring.{zero_ring}
use Rattle.ring.specs.declared.Ring.{Ring}
use Rattle.limits.proofs.Refusals.{not_done}
use Rattle.sheet_lines.specs.Found.{Found, found, offence}
use Rattle.sheet.specs.Good.{GoodSheet}
use Rattle.sheet.specs.Sheets.{no_sheet, sheet_in, read_told, sheet_of, ReadPromise}
use Rattle.sheet.specs.declared.Sheet.{Sheet}
use Rattle.sheet.specs.declared.Reading.{Reading}
use Rattle.sheet.proofs.Good.{read_good}
use Rattle.run.specs.Outcome.{refused, Result}
use Rattle.run.specs.Run.{ends, run_sheet, run_of, RunPromise}
use Rattle.run.specs.Inside.{Ended, Leaves}
use Rattle.run.specs.declared.Ran.{Ran}
use Rattle.run.proofs.Running.{bench, leaves}

-- ---- the run by what the bytes are read as

pub run_read : (bytes t : List ℕ) {sheet : Sheet} {end : ℕ} → sheet_in bytes ≡ found sheet end → run_of bytes t ≡ run_sheet sheet t
unfolding run_of
run_read bytes t e = rw e

pub run_offence : (bytes t : List ℕ) {why : Refusal} {place : ℕ} → sheet_in bytes ≡ offence why place
    → run_of bytes t ≡ ends no_sheet (bench zero_ring t) (refused (number_of why) place)
unfolding run_of
run_offence bytes t e = rw e

pub keeps : (bytes t : List ℕ) (x : Ran) (t' : List ℕ) → Leaves (run_of bytes t) x t' → RunPromise bytes t x t'
keeps bytes t x t' l = record { answer = l.answer; ring = l.ring; modules = l.modules; trail = l.trail }

-- the bytes are read as a good sheet, or refused
pub read_is : (bytes : List ℕ) → ((sheet : Sheet) × GoodSheet sheet × ((t : List ℕ) → run_of bytes t ≡ run_sheet sheet t))
    ⊎ ((why : Refusal) × (place : ℕ) × (sheet_in bytes ≡ offence why place))
read_is bytes = go (sheet_in bytes) refl
  where
    go : (f : Found Sheet) → sheet_in bytes ≡ f
        → ((sheet : Sheet) × GoodSheet sheet × ((t : List ℕ) → run_of bytes t ≡ run_sheet sheet t)) ⊎ ((why : Refusal) × (place : ℕ) × (sheet_in bytes ≡ offence why place))
    go (found sheet end) e = inl (sheet, read_good bytes sheet end e, λ t. run_read bytes t e)
    go (offence why place) e = inr (why, place, e)

-- ---- by the reader's answer

module _ (bytes : List ℕ) (r : Reading) (p : ReadPromise bytes r) where
  read_found : r.answer ≡ Ok tt → (end : ℕ) × (sheet_in bytes ≡ found r.sheet end)
  read_found e = go (sheet_in bytes) refl p.answer p.sheet
    where
      go : (f : Found Sheet) → sheet_in bytes ≡ f → tells r.answer ≡ read_told f → r.sheet ≡ sheet_of f → (end : ℕ) × (sheet_in bytes ≡ found r.sheet end)
      go (found sheet end) q a s = (end, q ∙ ap (λ (x : Sheet). found x end) (sym s))
      go (offence why place) q a s = not_done (sym a ∙ ap tells e)

  -- a sheet that is read is run
  pub keeps_read : (t : List ℕ) (x : Ran) (t' : List ℕ) → r.answer ≡ Ok tt → Leaves (run_sheet r.sheet t) x t' → RunPromise bytes t x t'
  keeps_read t x t' e l = keeps bytes t x t' (subst (λ (y : Result). Leaves y x t') (sym (run_read bytes t (read_found e).1)) l)

  -- a refused one is not
  pub keeps_refused : (t : List ℕ) (refusal : Refused) (ring : Ring) → r.answer ≡ Err refusal → ring ≡ zero_ring
      → RunPromise bytes t (record { answer = Err refusal; ring = ring; modules = r.sheet.modules }) t
  keeps_refused t refusal ring e z = go (sheet_in bytes) refl (sym (ap tells e) ∙ p.answer) p.sheet
    where
      go : (f : Found Sheet) → sheet_in bytes ≡ f → tells (Err refusal) ≡ read_told f → r.sheet ≡ sheet_of f
          → RunPromise bytes t (record { answer = Err refusal; ring = ring; modules = r.sheet.modules }) t
      go (found sheet end) q a s = not_done a
      go (offence why' place') q a s =
          let n : number_of refusal.why ≡ number_of why' = cc in
          let m : refusal.place ≡ place' = cc in
          let last : Ran = record { answer = Err refusal; ring = ring; modules = r.sheet.modules } in
          let o : Ended (refused (number_of why') place') zero_ring no_sheet.modules last = record { answer = ap₂ refused n m; ring = z; modules = ap (λ (y : Sheet). y.modules) s } in
          keeps bytes t last t (leaves no_sheet zero_ring t (refused (number_of why') place') last o (run_offence bytes t q))
