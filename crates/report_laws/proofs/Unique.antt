-- No two results keep the promise of `print` or of `page`, nor that of what writes into a lent buffer; and in a
-- buffer of the most that a page has, the page stands whole. Assumes nothing.
use mathlib.Core.Path.{◌≡◌, sym, ap, ◌∙◌}
use mathlib.Core.List.{List}
use Prim.Native.Nat.{ℕ, ◌≤◌}
use native.Mathlib.Omega.{arith}
use lib.ListN.{length}
use lib.Seq.{take_all}
use borrow.Author.Tests.{le-leb}
use Rattle.std.specs.Prelude.{Option, Some}
use Rattle.lists.specs.Put.{put}
use Rattle.text.specs.declared.Lent.{Lent}
use Rattle.run.specs.declared.Ran.{Ran}
use Rattle.report.specs.Page.{page_of, result_of}
use Rattle.report.specs.Promise.{page_most, Prints, PrintPromise}
use Rattle.sheet_page.specs.Promise.{text_of, PagePromise, CallPromise}

-- of `put_byte`, `put_word` and `put_number`: the buffer, the place in it, and whether all found room
pub one_written : (x y z : Lent) → x ≡ z → y ≡ z → x ≡ y
one_written x y z a b = a ∙ sym b

-- of a text printed
one_text : (text page : List ℕ) (r s : Option ℕ) (page' page'' : List ℕ) → Prints text page r page' → Prints text page s page'' → (r ≡ s) × (page' ≡ page'')
one_text text page r s page' page'' a b = (a.result ∙ sym b.result, a.bytes ∙ sym b.bytes)

pub one_print : (ran : Ran) (trail page : List ℕ) (r s : Option ℕ) (page' page'' : List ℕ) → PrintPromise ran trail page r page' → PrintPromise ran trail page s page''
    → (r ≡ s) × (page' ≡ page'')
one_print ran trail = one_text (page_of (result_of ran trail))

pub one_page : (sheet page : List ℕ) (r s : Option ℕ) (page' page'' : List ℕ) → PagePromise sheet page r page' → PagePromise sheet page s page'' → (r ≡ s) × (page' ≡ page'')
one_page sheet = one_text (text_of sheet)

-- of what C calls
pub one_call : (sheet page : List ℕ) (r s : ℕ) (page' page'' : List ℕ) → CallPromise sheet page r page' → CallPromise sheet page s page'' → (r ≡ s) × (page' ≡ page'')
one_call sheet page r s page' page'' a b = (a.result ∙ sym b.result, a.bytes ∙ sym b.bytes)

-- ---- a buffer that is long enough

whole_text : (text page : List ℕ) (r : Option ℕ) (page' : List ℕ) → page_most ≤ length page → Prints text page r page' → (r ≡ Some (length text)) × (page' ≡ put page 0 text)
whole_text text page r page' h a =
    let l : length text ≤ length page = omega (arith, a.short) in
    (a.result ∙ rw (le-leb (length text) (length page) l), a.bytes ∙ ap (put page 0) (take_all (length page) text l))

pub whole_print : (ran : Ran) (trail page : List ℕ) (r : Option ℕ) (page' : List ℕ) → page_most ≤ length page → PrintPromise ran trail page r page'
    → (r ≡ Some (length (page_of (result_of ran trail)))) × (page' ≡ put page 0 (page_of (result_of ran trail)))
whole_print ran trail = whole_text (page_of (result_of ran trail))

pub whole_page_lem : (sheet page : List ℕ) (r : Option ℕ) (page' : List ℕ) → page_most ≤ length page → PagePromise sheet page r page'
    → (r ≡ Some (length (text_of sheet))) × (page' ≡ put page 0 (text_of sheet))
whole_page_lem sheet = whole_text (text_of sheet)

-- so for what C calls
pub whole_call : (sheet page : List ℕ) (r : ℕ) (page' : List ℕ) → page_most ≤ length page → CallPromise sheet page r page'
    → (r ≡ length (text_of sheet)) × (page' ≡ put page 0 (text_of sheet))
whole_call sheet page r page' h a =
    let l : length (text_of sheet) ≤ length page = omega (arith, a.short) in
    (a.result ∙ rw (le-leb (length (text_of sheet)) (length page) l), a.bytes ∙ ap (put page 0) (take_all (length page) (text_of sheet) l))
