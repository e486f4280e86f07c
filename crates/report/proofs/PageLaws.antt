-- What can be printed, the page by the answer of a run, and what `print` promises from what is written. Assumes
-- nothing.
use mathlib.Core.Path.{◌≡◌, refl, sym, ap, ◌∙◌}
use mathlib.Core.Bool.{true, false, cond}
use mathlib.Core.List.{List, ◌++◌, append_assoc}
use mathlib.Core.Logic.{◌⊎◌, inl, inr, ⊎_elim}
use Prim.Native.Nat.{ℕ, ◌≤◌}
use native.Mathlib.Omega.{arith}
use lib.Dec.{leb}
use lib.ListN.{length}
use lib.Seq.{take_all}
use borrow.Author.Tests.{leb-true}
use denote.Ref.{MutBor}
use Rattle.std.specs.Prelude as std
use Rattle.std.specs.Prelude.{Option, Some, None, Ok, Err}
use Rattle.lists.proofs.Tests.{both, and-true}
use Rattle.limits.specs.Limits.{seats_most}
use Rattle.limits.specs.Refusals.{number_of}
use Rattle.limits.specs.declared.Refusal.TheVariants.{NotARing}
use Rattle.limits.specs.declared.Refused.{Refused}
use Rattle.trail.specs.Trail.{room_for}
use Rattle.ring.specs.Refusals.{found}
use Rattle.ring.specs.declared.Verdict.{Verdict}
use Rattle.ring.specs.declared.Verdict.TheVariants.{Within, Outside}
use Rattle.run.specs.Outcome.{Heard, Result, heard}
use Rattle.run.specs.declared.Shown.{Shown}
use Rattle.run.specs.declared.Ran.{Ran}
use Rattle.report.specs.Page.{bus_line, faults_line, refused_line, printable, sections, ran_page, page_of, result_of}
use Rattle.report.specs.Promise.{page_most, Prints, PrintsOrZero}
use Rattle.report.specs.Inside.{Writes, up_to_faults}
use Rattle.text.specs.Lent.{lent}
use Rattle.text.specs.declared.Lent.{Lent}
use Rattle.text.proofs.Written.{Written, from_start, same_reference}

-- ---- what can be printed

pub holds : (x : Result) → printable x ≡ true → (x.ring.n ≤ seats_most) × (x.ring.records ≤ room_for (length x.trail))
holds x e =
    let room = room_for (length x.trail) in
    let b = and-true (leb x.ring.n seats_most) (leb x.ring.records room) e in
    (leb-true x.ring.n seats_most b.0, leb-true x.ring.records room b.1)

-- ---- the page by the answer

-- with a verdict that is not refused
page_fit : (x : Result) (bus : Heard) (v : Verdict) → sections x bus (found (Ok v)) ≡ ran_page x bus (found (Ok v))
page_fit x bus Within = refl
page_fit x bus (Outside t) = refl

module _ (x : Result) (bus : Heard) (v : Verdict) {told : std.Result Verdict Refused} (is : told ≡ Ok v) where
  pub page_printed : printable x ≡ true → up_to_faults x (bus_line bus) ++ faults_line (found (Ok v)) ≡ ran_page x bus (found told)
  page_printed e = rw (is, ← page_fit x bus v, e) (simp append_assoc)

  pub page_no_ring : printable x ≡ false → refused_line (number_of NotARing) 0 ≡ ran_page x bus (found told)
  page_no_ring e = rw (is, ← page_fit x bus v, e)

module _ (r : Ran) (t : List ℕ) where
  pub page_refused : {refusal : Refused} → r.answer ≡ Err refusal → refused_line (number_of refusal.why) refusal.place ≡ page_of (result_of r t)
  unfolding page_of
  page_refused e = rw e

  pub page_ran : {shown : Shown} → r.answer ≡ Ok shown → ran_page (result_of r t) (heard shown.bus) (found shown.verdict) ≡ page_of (result_of r t)
  unfolding page_of
  page_ran e = rw e

-- ---- the promise

-- where a page is written from the start of a buffer, how much is written says whether all of it found room;
-- and the buffer is the one that was lent
module _ (text : List ℕ) {page : MutBor (List ℕ)} {end : Lent} (w : Writes text page_most (lent page 0 true) end) where
  all : Written page.now text end
  all = rw (← w.done) at (from_start page text)

  same_page : page.ghost_name ≡ end.page.ghost_name
  same_page = sym (rw w.done (same_reference (lent page 0 true) text))

  length_of : (leb (length text) (length page.now) ≡ true) ⊎ (leb (length text) (length page.now) ≡ false)
      → cond end.whole (Some end.at) None ≡ cond (leb (length text) (length page.now)) (Some (length text)) None
  length_of (inl h) =
      let at : end.at ≡ length text = all.at ∙ ap length (take_all (length page.now) text (leb-true (length text) (length page.now) h)) in
      rw (all.whole, h, at)
  length_of (inr h) = rw (all.whole, h)

  pub prints : {r : Option ℕ} {page' : List ℕ} → r ≡ cond end.whole (Some end.at) None
      → (page.ghost_name ≡ end.page.ghost_name → page' ≡ end.page.now) → Prints text page.now r page'
  prints {r} e behind = record {
    bytes = behind same_page ∙ all.bytes;
    result = e ∙ length_of (both (leb (length text) (length page.now)));
    short = w.short;
  }

-- ---- for callers

-- what is given back never reaches past the buffer
pub within_page : (text page : List ℕ) (r : Option ℕ) (page' : List ℕ) → Prints text page r page' → (m : ℕ) → r ≡ Some m → m ≤ length page
within_page text page r page' a m i =
    ⊎_elim
    (λ e. let z : Some m ≡ Some (length text) = sym i ∙ a.result ∙ rw e in let k : m ≡ length text = cc z in omega (arith, leb-true (length text) (length page) e))
    (λ e. let z : Some m ≡ None = sym i ∙ a.result ∙ rw e in absurd (cc z))
    (both (leb (length text) (length page)))

pub within_buffer : (text page : List ℕ) (r : ℕ) (page' : List ℕ) → PrintsOrZero text page r page' → r ≤ length page
within_buffer text page r page' a =
    ⊎_elim
    (λ e. let z : r ≡ length text = a.result ∙ rw e in omega (arith, leb-true (length text) (length page) e))
    (λ e. let z : r ≡ 0 = a.result ∙ rw e in omega arith)
    (both (leb (length text) (length page)))
