-- `fresh_ring`: before seat p the seats below it are fresh. Assumes nothing.
use Rattle.std.proofs.Common.{◌≡◌, ◌∙◌, ap, arith, ℕ}
use Rattle.ring.specs.Ring.{with_counts, fresh_seat, fresh_ring}
use Rattle.ring.specs.declared.Ring.{Ring}
use Rattle.ring.proofs.Starting.{begun, filled, begun_none, begun_next}
use Rattle.ring.proofs.start.fresh_ring.Goals as goal

pub loop-p-init : goal.loop-p-init
loop-p-init c = let n = c.args.n in
    ap (λ (r : Ring). with_counts r n r.time r.records) c.zero_ring-ring.ensures ∙ begun_none n

pub loop-p-preserved : goal.loop-p-preserved
loop-p-preserved c =
    let n = c.args.n in
    let p = c.loop-p.p in
    ap (λ (x : ℕ). filled c.loop-p.ring p x) c.full-full.ensures
    ∙ ap (λ (x : Ring). filled x p (fresh_seat n).set) c.loop-p.invariant
    ∙ begun_next n p (omega arith)

pub returns : goal.returns
unfolding fresh_ring
returns c =
    let e : c.loop-p.p ≡ c.args.n = omega arith in
    c.loop-p.invariant ∙ ap (begun c.args.n) e
