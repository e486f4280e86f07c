-- A text written from the start of a buffer stands there as far as it fits, and no other byte is touched; it is
-- written behind the same reference. Assumes nothing.
use mathlib.Core.Path.{◌≡◌, refl, sym, ap, ap₂, ◌∙◌}
use mathlib.Core.Bool.{true, false}
use mathlib.Core.List.{List, [], ◌∷◌, ◌++◌, append_assoc, append-nil}
use mathlib.Core.Logic.{⊎_elim}
use Prim.Native.Nat.{ℕ, ◌+◌, ◌≤◌, ◌<◌}
use native.Mathlib.Omega.{arith}
use denote.Ref.{MutBor}
use lib.Dec.{ltb, leb}
use lib.ListN.{length, take, set, length-append, length-take}
use lib.Seq.{take-nil, take_all, take-append-le, sets-eq}
use borrow.Author.Tests.{le-leb, lt-leb, ltb-true, ltb-false}
use Rattle.lists.specs.Put.{put}
use Rattle.lists.proofs.Tests.{both}
use Rattle.lists.proofs.Put.{put_nil, put-put, length-put}
use Rattle.text.specs.Lent.{lent, with_byte, with_text}
use Rattle.text.specs.declared.Lent.{Lent}

-- the buffer that came as `start` holds as much of the text as it can
pub record Written (start text : List ℕ) (x : Lent) : Type 0 where
  pub bytes : x.page.now ≡ put start 0 (take (length start) text)
  pub at : x.at ≡ length (take (length start) text)
  pub whole : x.whole ≡ leb (length text) (length start)

-- nothing yet
nothing : (page : MutBor (List ℕ)) → Written page.now [] (lent page 0 true)
nothing page =
    let start = page.now in
    record {
      bytes = sym (ap (put start 0) (take-nil (length start)) ∙ put_nil start 0);
      at = sym (ap length (take-nil (length start)));
      whole = sym (le-leb 0 (length start) (omega arith));
    }

module _ (start text : List ℕ) (x : Lent) (w : Written start text x) where
  -- the buffer keeps its length
  same_length : length x.page.now ≡ length start
  same_length = ap length w.bytes ∙ length-put start 0 (take (length start) text) (omega (arith, length-take (length start) text))

  module _ (byte : ℕ) where
    -- one byte more, where there is room
    byte_fits : x.at < length x.page.now
        → Written start (text ++ (byte ∷ [])) (record x { page = record x.page { now = set x.page.now x.at byte }; at = x.at + 1 })
    byte_fits h =
        let l : length text < length start = omega (arith, same_length, w.at, length-take (length start) text) in
        let t : take (length start) text ≡ text = take_all (length start) text (omega arith) in
        let g = length-append text (byte ∷ []) in
        let u : take (length start) (text ++ (byte ∷ [])) ≡ text ++ (byte ∷ []) = take_all (length start) (text ++ (byte ∷ [])) (omega arith) in
        let a : x.at ≡ 0 + length text = omega (arith, w.at ∙ ap length t) in
        let p : x.page.now ≡ put start 0 text = w.bytes ∙ ap (put start 0) t in
        record {
          bytes = sets-eq (byte ∷ []) x.page.now x.at (omega arith)
              ∙ ap₂ (λ (y : List ℕ) (i : ℕ). put y i (byte ∷ [])) p a
              ∙ put-put start 0 text (byte ∷ []) (omega arith)
              ∙ ap (put start 0) (sym u);
          at = let e = ap length u in omega arith;
          whole = w.whole ∙ le-leb (length text) (length start) (omega arith) ∙ sym (le-leb (length (text ++ (byte ∷ []))) (length start) (omega arith));
        }

    -- and where there is none
    byte_past : length x.page.now ≤ x.at → Written start (text ++ (byte ∷ [])) (record x { whole = false })
    byte_past h =
        let l : length start ≤ length text = omega (arith, same_length, w.at, length-take (length start) text) in
        let u : take (length start) (text ++ (byte ∷ [])) ≡ take (length start) text = take-append-le (length start) text (byte ∷ []) l in
        record {
          bytes = w.bytes ∙ ap (put start 0) (sym u);
          at = w.at ∙ ap length (sym u);
          whole = sym (lt-leb (length (text ++ (byte ∷ []))) (length start) (omega (arith, length-append text (byte ∷ []))));
        }

    -- so for a byte
    then_byte : Written start (text ++ (byte ∷ [])) (with_byte x byte)
    unfolding with_byte
    then_byte =
        ⊎_elim
        (λ e. rw e (byte_fits (ltb-true _ _ e)))
        (λ e. rw e (byte_past (ltb-false _ _ e)))
        (both (ltb x.at (length x.page.now)))

-- and for a text byte by byte
then_text : (start before : List ℕ) (x : Lent) (text : List ℕ) → Written start before x → Written start (before ++ text) (with_text x text)
unfolding with_text
then_text start before x [] w = rw append-nil w
then_text start before x (byte ∷ more) w =
    rw append_assoc at (then_text start (before ++ (byte ∷ [])) (with_byte x byte) more (then_byte start before x w byte))

pub from_start : (page : MutBor (List ℕ)) (text : List ℕ) → Written page.now text (with_text (lent page 0 true) text)
from_start page text = then_text page.now [] (lent page 0 true) text (nothing page)

-- ---- the reference

same_for_byte : (x : Lent) (byte : ℕ) → (with_byte x byte).page.ghost_name ≡ x.page.ghost_name
unfolding with_byte
same_for_byte x byte = ⊎_elim (λ e. rw e) (λ e. rw e) (both (ltb x.at (length x.page.now)))

pub same_reference : (x : Lent) (text : List ℕ) → (with_text x text).page.ghost_name ≡ x.page.ghost_name
unfolding with_text
same_reference x [] = refl
same_reference x (byte ∷ more) = same_reference (with_byte x byte) more ∙ same_for_byte x byte
