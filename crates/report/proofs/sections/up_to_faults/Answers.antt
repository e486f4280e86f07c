-- `up_to_faults`: one part after the other. Assumes nothing.
use Rattle.std.proofs.Common.{rules, arith}
use Rattle.report.specs.Page.{record_line, seat_line, result_of}
use Rattle.report.specs.Promise.{record_most}
use Rattle.report.specs.Inside.{seat_most}
use Rattle.report.proofs.Writing.{then, looser}
use Rattle.report.proofs.PageLaws.{holds}
use Rattle.report.proofs.sections.up_to_faults.Goals as goal

pub returns : goal.returns
returns c =
    let ran = c.args.ran.now in
    let h = holds (result_of ran c.args.trail.now) c.requires in
    let records = c.section.ensures (record_line ran.modules c.args.trail.now) record_most (λ x k y l p. search rules) in
    let seats = c.section-2.ensures (seat_line ran.modules ran.ring) seat_most (λ x k y l p. search rules) in
    looser (omega arith) (then (then (then records seats) c.count_line.ensures) c.bus_line.ensures)
