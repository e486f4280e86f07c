-- `module_lines`: each line goes on with a number that is new, or stops with its offence. Assumes nothing.
use Rattle.std.proofs.Common.{rules, arith, refl, sym}
use Rattle.std.proofs.Math.ListN.{length-set}
use Rattle.sheet.specs.Entries.{module_line}
use Rattle.sheet.proofs.EntryLaws.{is_new_lem, not_new, begins, goes_on, stops, ends}
use Rattle.sheet.proofs.modules.module_lines.Goals as goal

pub loop-k-init : goal.loop-k-init
loop-k-init c = record { reached = begins _ _ _ _; long = refl }

pub returns-in_err-value : goal.returns-in_err-value
unfolding module_line
returns-in_err-value c =
    let r = c.in_err-value.field-0.0 in
    let s = stops _ _ _ _ _ _ _ c.loop-k.invariant.reached c.loop-k-test.true r.why r.place (rw (← c.in_err-value.ensures.read)) in
    record { read = search rules; long = c.loop-k.invariant.long }

pub loop-k-preserved : goal.loop-k-preserved
unfolding module_line
loop-k-preserved c =
    let o = c.loop-k in
    let u = is_new_lem c.in_ok-value.value o.k o.list (λ i h. c.loop-j.invariant i (omega arith)) in
    record {
      reached = goes_on _ _ _ _ _ _ _ o.invariant.reached c.loop-k-test.true _ _ (rw (← c.in_ok-value.ensures.read, u));
      long = simp length-set o.invariant.long;
    }

pub returns : goal.returns
returns c = record { read = sym (ends _ _ _ _ _ _ _ c.loop-k.invariant.reached c.loop-k-test.false); long = c.loop-k.invariant.long }

pub returns-2 : goal.returns-2
unfolding module_line
returns-2 c =
    let o = c.loop-k in
    let u = not_new _ _ o.list c.loop-j.j c.loop-j-test.true c.if-list-j.true in
    record {
      read = rw c.at.ensures (sym (stops _ _ _ _ _ _ _ o.invariant.reached c.loop-k-test.true _ _ (rw (← c.in_ok-value.ensures.read, u))));
      long = o.invariant.long;
    }
