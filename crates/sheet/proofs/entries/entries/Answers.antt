-- `entries`: each line goes on with its entry, or stops with its offence. Assumes nothing.
use Rattle.std.proofs.Common.{arith, rules, refl, sym}
use Rattle.std.proofs.Math.ListN.{length-set}
use Rattle.sheet.proofs.EntryLaws.{enters_at, begins, goes_on, stops, ends}
use Rattle.sheet.proofs.entries.entries.Goals as goal

pub loop-k-init : goal.loop-k-init
loop-k-init g c = record { reached = begins _ _ _ _; long = refl }

pub returns-in_err-list : goal.returns-in_err-list
returns-in_err-list g c =
    let o = c.loop-k in
    let q = c.requires.1.1 in
    let l = enters_at _ g.line_at q.1.1 _ o.at _ c.in_err-list.ensures o.k o.list refl (omega (arith, q.0, o.invariant.long)) in
    let s = stops _ _ _ _ _ _ _ o.invariant.reached c.loop-k-test.true _ _ l in
    search rules

pub loop-k-preserved : goal.loop-k-preserved
loop-k-preserved g c =
    let o = c.loop-k in
    let q = c.requires.1.1 in
    let l = enters_at _ g.line_at q.1.1 _ o.at _ c.in_ok-list.ensures o.k o.list refl (omega (arith, q.0, o.invariant.long)) in
    record {
      reached = goes_on _ _ _ _ _ _ _ o.invariant.reached c.loop-k-test.true _ _ l;
      long = simp length-set o.invariant.long;
    }

pub returns : goal.returns
returns g c = record { read = sym (ends _ _ _ _ _ _ _ c.loop-k.invariant.reached c.loop-k-test.false); long = c.loop-k.invariant.long }
