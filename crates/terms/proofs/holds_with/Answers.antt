-- `holds_with`: before seat q it is known whether those below it keep apart, and the sound ones among them are
-- counted. Assumes nothing.
use Rattle.std.proofs.Common.{◌≡◌, refl, sym, ap, ◌∙◌, arith, ℕ, ◌≤◌, length, Bool, true, false, cond, not, ◌&&◌}
use mir.Val.{bool_byte}
use lib.Dec.{leb}
use Rattle.lists.specs.Counted.{all_below, count_below}
use Rattle.lists.proofs.Counted.{count_le}
use Rattle.terms.proofs.Found.{apart_at, sound_at, holds_at}
use Rattle.terms.proofs.holds_with.Goals as goal

one_at_most : (b : Bool) → cond b 1 0 ≤ 1
one_at_most true = omega arith
one_at_most false = omega arith

-- a truth as a number
byte_is : (b : Bool) → bool_byte b ≡ cond b 1 0
byte_is true = refl
byte_is false = refl

pub overflow_add-sound : goal.overflow_add-sound
overflow_add-sound c =
    let a = c.args in
    let q = c.loop-q.q in
    omega (arith, count_le (sound_at a.faults.now a.p a.f) q, c.loop-q.invariant.counted, one_at_most (not c.by_step.result), c.from.ensures ∙ byte_is (not c.by_step.result))

pub returns-then-apart : goal.returns-then-apart
returns-then-apart c =
    let a = c.args in
    let xs = a.faults.now in
    let e : c.loop-q.q ≡ length xs = omega (arith, c.loop-q.auto.q-end, c.loop-q-test.false) in
    ap (leb 2) (c.loop-q.invariant.counted ∙ ap (λ (k : ℕ). count_below k (sound_at xs a.p a.f)) e)
    ∙ sym
    (holds_at xs a.p a.f
    ∙ ap (λ (b : Bool). b && leb 2 (count_below (length xs) (sound_at xs a.p a.f)))
    (ap (λ (k : ℕ). all_below k (apart_at xs a.p a.f)) (sym e) ∙ sym c.loop-q.invariant.apart ∙ c.if-apart.true))

pub returns-else-apart : goal.returns-else-apart
returns-else-apart c =
    let a = c.args in
    let xs = a.faults.now in
    let e : c.loop-q.q ≡ length xs = omega (arith, c.loop-q.auto.q-end, c.loop-q-test.false) in
    c.if-apart.false
    ∙ sym
    (holds_at xs a.p a.f
    ∙ ap (λ (b : Bool). b && leb 2 (count_below (length xs) (sound_at xs a.p a.f)))
    (ap (λ (k : ℕ). all_below k (apart_at xs a.p a.f)) (sym e) ∙ sym c.loop-q.invariant.apart ∙ c.if-apart.false))
