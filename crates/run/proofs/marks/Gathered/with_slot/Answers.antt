-- `with_slot`: the marks looked at so far are gathered, and the first one of another slot ends them. Assumes
-- nothing.
use Rattle.std.proofs.Common.{◌≡◌, ◌<◌, sym, ap, ◌∙◌, ℕ, ◌+◌, ◌-◌, length, take, drop, get_or, arith, length-take}
use mathlib.Core.Logic.{inr}
use Rattle.std.proofs.lemmas.List.{get_or-take, get_or-drop}
use Rattle.sheet.specs.Good.{mark_of}
use Rattle.sheet.specs.Marks.{no_mark}
use Rattle.sheet.specs.declared.Mark.{Mark}
use Rattle.sheet.specs.declared.Sheet.{Sheet}
use Rattle.run.specs.Inside.{with_mark}
use Rattle.run.proofs.Gathering.{mark_more, all_gathered}
use Rattle.run.proofs.marks.Gathered.with_slot.Goals as goal

-- mark k of those from a place on
from_place : (sheet : Sheet) (start next k : ℕ) → k < length (take (sheet.mark_count - start) (drop start sheet.marks)) → next ≡ start + k
    → (next < sheet.mark_count) × (get_or (take (sheet.mark_count - start) (drop start sheet.marks)) k no_mark ≡ mark_of sheet next)
from_place sheet start next k l e =
    let h : k < sheet.mark_count - start = omega (arith, length-take (sheet.mark_count - start) (drop start sheet.marks)) in
    (omega arith, get_or-take (sheet.mark_count - start) (drop start sheet.marks) k no_mark h ∙ get_or-drop start sheet.marks k no_mark ∙ ap (mark_of sheet) (sym e))

pub loop-mark-preserved : goal.loop-mark-preserved
loop-mark-preserved c =
    let sheet = c.args.sheet.now in
    let g = c.loop-mark.gathered in
    let m = from_place sheet c.args.self.next g.next c.loop-mark.mark-index c.loop-mark-test.true c.loop-mark.invariant.0 in
    let e : c.with_mark-gathered.result ≡ with_mark g (mark_of sheet g.next) = c.with_mark-gathered.ensures ∙ ap (with_mark g) m.1 in
    rw e (omega (arith, c.loop-mark.invariant.0), mark_more sheet c.requires.good c.args.at g c.loop-mark.invariant.1 m.0 (sym (ap (λ (x : Mark). x.time) m.1) ∙ c.if-mark-at.false))

pub returns-then-mark-at-clause-whole : goal.returns-then-mark-at-clause-whole
returns-then-mark-at-clause-whole c =
    let sheet = c.args.sheet.now in
    let g = c.loop-mark.gathered in
    let m = from_place sheet c.args.self.next g.next c.loop-mark.mark-index c.loop-mark-test.true c.loop-mark.invariant.0 in
    all_gathered sheet c.requires.good c.args.at g c.loop-mark.invariant.1 (inr (λ e. c.if-mark-at.true (ap (λ (x : Mark). x.time) m.1 ∙ e)))
