-- `every_seat_stands`: the test of each of 32 seats. Assumes nothing.
use Rattle.std.proofs.Common.{rules, refl}
use Rattle.lists.proofs.Chains.{all_range}
use Rattle.ring.specs.Ring.{seat_of, seat_stands, every_seat_stands}
use Rattle.ring.proofs.check.every_seat_stands.Goals as goal

pub returns : goal.returns
unfolding every_seat_stands
returns c =
    let r = c.args.ring.now in
    all_range 32 (λ p. seat_stands r.n r.time p (seat_of r p)) _ _ _ c.all.ensures.ran refl (λ x q k. search rules) (λ x q k. search rules)
