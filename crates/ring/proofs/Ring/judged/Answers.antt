-- `judged`: by the first step up to which the terms fail. Assumes nothing.
use Rattle.std.proofs.Common.{◌≡◌, ℕ, sym, ◌∙◌, true, cond}
use Rattle.limits.specs.Limits.{room_most, seats_stand}
use Rattle.terms.specs.Terms.{first_failing}
use Rattle.ring.specs.Ring.{is_ring}
use Rattle.ring.specs.declared.Ring.{Ring}
use Rattle.ring.proofs.Checked.{ring_valid, seats_stand_lem}
use Rattle.ring.proofs.Judging.{terms_within}
use Rattle.ring.proofs.Ring.judged.Goals as goal

-- a ring has a number of seats, so what the search gives is the first step up to which the terms fail
first_is : (r : Ring) {first : ℕ} → is_ring r room_most ≡ true → first ≡ cond (seats_stand r.n) (first_failing r.n r.faults r.time) r.time
    → first_failing r.n r.faults r.time ≡ first
first_is r ring e = sym (e ∙ rw (seats_stand_lem r room_most (ring_valid r room_most ring)))

pub returns : goal.returns
returns c =
    let ring = sym c.is_ring.ensures ∙ c.if-not-is_ring.false in
    sym (terms_within _ ring _ (first_is c.args.self.now ring c.first_failing-first.ensures) c.if-first-self.false)
