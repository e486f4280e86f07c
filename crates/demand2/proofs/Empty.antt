-- The five empty programs of document 01 (specs/Empty.antt): none keeps the promise of `step`, not even on
-- the benches of runs.
use mathlib.Core.Path.{◌≡◌, refl, sym, ap, ◌∙◌, subst}
use mathlib.Core.Bool.{Bool, false, cond}
use mathlib.Core.List.{[]}
use Prim.Native.Nat.{ℕ, ◌+◌, ◌*◌, ◌^◌, ◌<◌}
use native.Mathlib.Omega.{arith}
use lib.Dec.{eqb}
use lib.ListN.{length, replicate}
use borrow.Author.Tests.{ne_eqb}
use Rattle.std.specs.Prelude.{⊤, Result, Ok, Err}
use Rattle.limits.specs.Refusals.{Told, done, refused, refused_at, tells}
use Rattle.limits.specs.declared.Refused.{Refused}
use Rattle.limits.specs.declared.Refusal.TheVariants.{NotARing, WrongMark, AtTheEnd, NoRoom}
use Rattle.lists.specs.Counted.{sum}
use Rattle.seats.specs.Sets.{size_of}
use Rattle.ring.specs.Ring.{seat_of, fresh_ring, zero_ring, is_ring, every_seat_stands}
use Rattle.turn.specs.Turn.{turn_of}
use Rattle.ring.specs.Refusals.{step_told}
use Rattle.ring.specs.Promise.{StepPromise, ring_of, trail_of}
use Rattle.ring.specs.declared.Ring.{Ring}
use Rattle.ring.specs.declared.Stepped.{Stepped}
use Rattle.turn.specs.declared.Seat.{Seat}
use Rattle.steps.specs.Run.{Marks, quiet, send_fault, Bench, told_on, step_on, fresh_bench, Reached, start, taken}
use Rattle.limits.proofs.Refusals.{not_done}
use Rattle.demand2.specs.Empty.{Program, made, on, Keeps, RefusesAll, refuser, Constant, constantly, StandsStill, sleeper, FirstOnly, first_timer, Invents, inventor}
use Rattle.demand2.specs.Refused.{Answered, not_a_ring, wrong_mark, at_the_end, no_room}
use Rattle.demand2.specs.Refused as row
use Rattle.demand2.proofs.Refused.{answers}
use Rattle.demand2.proofs.Sum.{reached_sum}

-- ---- what is said

-- no program of the kind keeps the promise
abbrev pub ShutOut : (Program → Type 0) → Type 0
ShutOut Kind = (f : Program) → Kind f → Keeps f → ⊥

-- ---- the benches at which they are caught: a fresh ring of 4 with room for 3 records, and the same a quiet step later

bench₀ : Bench
bench₀ = fresh_bench 4 (replicate 15 0)

bench₁ : Bench
bench₁ = step_on quiet bench₀

run₀ : Reached 4 (replicate 15 0) bench₀
unfolding bench₀
run₀ = start

run₁ : Reached 4 (replicate 15 0) bench₁
unfolding bench₁ bench₀ ring_of trail_of step_told is_ring every_seat_stands fresh_ring zero_ring turn_of
run₁ = taken run₀ quiet refl

module _ (f : Program) (keeps : Keeps f) where
  at₀ : (m : Marks) → m.receive < 2 ^ 32 → StepPromise bench₀.ring m.send m.receive bench₀.trail (on f bench₀ m).stepped (on f bench₀ m).trail
  at₀ = keeps 4 15 (omega arith) (omega arith) (omega arith) bench₀ run₀

  at₁ : (m : Marks) → m.receive < 2 ^ 32 → StepPromise bench₁.ring m.send m.receive bench₁.trail (on f bench₁ m).stepped (on f bench₁ m).trail
  at₁ = keeps 4 15 (omega arith) (omega arith) (omega arith) bench₁ run₁

-- ---- what the promise says there

told₀ : told_on quiet bench₀ ≡ done
unfolding bench₀ step_told is_ring every_seat_stands fresh_ring zero_ring turn_of
told₀ = refl

time₀ : (step_on quiet bench₀).ring.time ≡ 1
unfolding bench₀ ring_of step_told is_ring every_seat_stands fresh_ring zero_ring turn_of
time₀ = refl

time₁ : (step_on quiet bench₁).ring.time ≡ 2
unfolding bench₁ bench₀ ring_of trail_of step_told is_ring every_seat_stands fresh_ring zero_ring turn_of
time₁ = refl

set₀ : ((seat_of (step_on send_fault bench₀).ring 1).set ≡ 14) × ((seat_of bench₀.ring 1).set ≡ 15)
unfolding bench₀ ring_of step_told is_ring every_seat_stands fresh_ring zero_ring turn_of
set₀ = (refl, refl)

set₁ : ((seat_of (step_on send_fault bench₁).ring 0).set ≡ 13) × ((seat_of bench₁.ring 0).set ≡ 15) × (bench₁.ring.time ≡ 1)
unfolding bench₁ bench₀ ring_of trail_of step_told is_ring every_seat_stands fresh_ring zero_ring turn_of
set₁ = (refl, refl, refl)

-- ---- the theorems

-- one that refuses everything
pub refuses_all : ShutOut RefusesAll
refuses_all f kind keeps =
    let k = at₀ f keeps quiet (omega arith) in
    let r = kind bench₀.ring quiet.send quiet.receive bench₀.trail in
    not_done (sym r.2 ∙ k.answer ∙ told₀)

-- one with a constant result
pub constant : ShutOut Constant
constant f kind keeps =
    let a = (at₀ f keeps quiet (omega arith)).ring in
    let b = (at₁ f keeps quiet (omega arith)).ring in
    let i = kind.1 bench₀.ring quiet.send quiet.receive bench₀.trail in
    let j = kind.1 bench₁.ring quiet.send quiet.receive bench₁.trail in
    let x = ap (λ (r : Ring). r.time) (sym a ∙ ap (λ (s : Stepped). s.ring) (i ∙ sym j) ∙ b) in
    omega (arith, sym time₀ ∙ x ∙ time₁)

-- one that steps without changing anything
pub stands_still : ShutOut StandsStill
stands_still f kind keeps =
    let a = (at₀ f keeps send_fault (omega arith)).ring in
    let k = kind bench₀.ring send_fault.send send_fault.receive bench₀.trail 1 in
    omega (arith, sym set₀.0 ∙ ap (λ (r : Ring). (seat_of r 1).set) (sym a) ∙ ap (λ (s : Seat). s.set) k ∙ set₀.1)

-- one that applies the rules at time 0 and afterwards only advances the time
pub first_only : ShutOut FirstOnly
first_only f kind keeps =
    let a = (at₁ f keeps send_fault (omega arith)).ring in
    let z = set₁.2 in
    let k = kind bench₁.ring send_fault.send send_fault.receive bench₁.trail (omega arith) 0 in
    omega (arith, sym set₁.0 ∙ ap (λ (r : Ring). (seat_of r 0).set) (sym a) ∙ ap (λ (s : Seat). s.set) k ∙ set₁.1)

-- one that invents its record count
pub invents : ShutOut Invents
invents f kind keeps =
    let b = kind.bench in
    let m = kind.marks in
    let k = keeps kind.n kind.bytes kind.low kind.high kind.small b kind.run m kind.mask in
    let e : told_on m b ≡ done = sym k.answer ∙ kind.taken in
    let s = (reached_sum kind.n (replicate kind.bytes 0) kind.low kind.high (taken kind.run m e)).total in
    kind.wrong
    (subst (λ (r : Ring). sum kind.n (λ p. size_of (seat_of r p).set) + r.records ≡ kind.n * kind.n) (sym k.ring) s)

-- ---- each kind has the program written out for it

refuser_is : RefusesAll refuser
refuser_is r send receive t = (10, 0, refl)

constantly_is : Constant constantly
constantly_is = ((constantly zero_ring false 0 []).stepped, λ r send receive t. refl)

sleeper_is : StandsStill sleeper
sleeper_is r send receive t p = refl

first_timer_is : FirstOnly first_timer
first_timer_is r send receive t l p = rw (ne_eqb r.time 0 (omega arith))

inventor_is : Invents inventor
unfolding bench₀ ring_of step_told is_ring every_seat_stands fresh_ring zero_ring turn_of
inventor_is = record {
  n = 4;
  bytes = 15;
  low = omega arith;
  high = omega arith;
  small = omega arith;
  bench = bench₀;
  run = run₀;
  marks = quiet;
  mask = omega arith;
  taken = refl;
  wrong = λ e. omega arith;
}

-- ---- and there is a program that keeps the promise, so that the theorems say something

-- an answer in the engine's own type
answer_of : Told → Result ⊤ Refused
answer_of done = Ok tt
answer_of (refused number place) =
    Err (refused_at (cond (eqb number 10) NotARing (cond (eqb number 6) WrongMark (cond (eqb number 9) AtTheEnd NoRoom))) place)

answer_told : (r : Ring) (send : Bool) (receive bytes : ℕ) (a : Told) → Answered r send receive bytes a → tells (answer_of a) ≡ a
unfolding answer_of
answer_told r send receive bytes a (not_a_ring h) = refl
answer_told r send receive bytes a (wrong_mark v w) = refl
answer_told r send receive bytes a (at_the_end v w e) = refl
answer_told r send receive bytes a (no_room v w l k) = refl
answer_told r send receive bytes a (row.taken v w l k) = refl

keeper : Program
keeper r send receive t = made (answer_of (step_told r send receive (length t))) (ring_of r send receive t) (trail_of r send receive t)

keeper_keeps : Keeps keeper
unfolding keeper
keeper_keeps n bytes low high small b w m mask = record {
  answer = answer_told b.ring m.send m.receive (length b.trail) _ (answers b.ring m.send m.receive (length b.trail));
  ring = refl;
  trail = refl;
}
