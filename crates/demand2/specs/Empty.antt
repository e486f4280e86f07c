-- The five empty programs of document 01 in the place of `step`: each as a kind of programs, and one of that
-- kind written out.
use Rattle.std.specs.Prelude.{Bool, ⊤, Result, Ok, Err, cond, List, ◌≡◌, ℕ, ◌+◌, ◌*◌, ◌^◌, ◌≤◌, ◌<◌, eqb, replicate}
use Rattle.limits.specs.Limits.{seats_least, seats_most, room_most}
use Rattle.limits.specs.Refusals.{done, refused, refused_at, tells}
use Rattle.limits.specs.declared.Refused.{Refused}
use Rattle.limits.specs.declared.Refusal.TheVariants.{NotARing}
use Rattle.lists.specs.Counted.{sum}
use Rattle.seats.specs.Sets.{size_of}
use Rattle.ring.specs.Ring.{seat_of, with_counts, zero_ring}
use Rattle.trail.specs.Trail.{width}
use Rattle.ring.specs.Promise.{StepPromise, ring_of, trail_of}
use Rattle.ring.specs.declared.Ring.{Ring}
use Rattle.ring.specs.declared.Stepped.{Stepped}
use Rattle.steps.specs.Run.{Marks, Bench, Reached}

-- what a program in the place of step makes: its answer with the ring, and the trail after it
pub record Made : Type 0 where
  pub stepped : Stepped
  pub trail : List ℕ

abbrev pub made : Result ⊤ Refused → Ring → List ℕ → Made
made a r t = record { stepped = record { answer = a; ring = r }; trail = t }

-- a program in the place of step
abbrev pub Program : Type 0
Program = Ring → Bool → ℕ → List ℕ → Made

abbrev pub on : Program → Bench → Marks → Made
on f b m = f b.ring m.send m.receive b.trail

-- it keeps the promise of step at least on each bench of a run from a fresh ring with a cleared buffer of up to
-- all the room that a trail can have
abbrev pub Keeps : Program → Type 0
Keeps f = (n bytes : ℕ) → seats_least ≤ n → n ≤ seats_most → bytes ≤ width * room_most → (b : Bench) → Reached n (replicate bytes 0) b → (m : Marks) → m.receive < 2 ^ seats_most
    → StepPromise b.ring m.send m.receive b.trail (on f b m).stepped (on f b m).trail

-- ---- 1: it refuses everything

abbrev pub RefusesAll : Program → Type 0
RefusesAll f = (r : Ring) (send : Bool) (receive : ℕ) (t : List ℕ)
    → (number : ℕ) × (place : ℕ) × (tells (f r send receive t).stepped.answer ≡ refused number place)

abbrev pub refuser : Program
refuser r send receive t = made (Err (refused_at NotARing 0)) r t

-- ---- 2: its result is constant

abbrev pub Constant : Program → Type 0
Constant f = (s : Stepped) × ((r : Ring) (send : Bool) (receive : ℕ) (t : List ℕ) → (f r send receive t).stepped ≡ s)

abbrev pub constantly : Program
constantly r send receive t = made (Ok tt) zero_ring t

-- ---- 3: it steps without changing anything of any seat, though it may count the time

abbrev pub StandsStill : Program → Type 0
StandsStill f = (r : Ring) (send : Bool) (receive : ℕ) (t : List ℕ) (p : ℕ) → seat_of (f r send receive t).stepped.ring p ≡ seat_of r p

abbrev pub sleeper : Program
sleeper r send receive t = made (Ok tt) (with_counts r r.n (r.time + 1) r.records) t

-- ---- 4: it applies the rules at time 0, and afterwards only advances the time

abbrev pub FirstOnly : Program → Type 0
FirstOnly f = (r : Ring) (send : Bool) (receive : ℕ) (t : List ℕ) → 0 < r.time → (p : ℕ) → seat_of (f r send receive t).stepped.ring p ≡ seat_of r p

abbrev pub first_timer : Program
first_timer r send receive t =
    cond (eqb r.time 0) (made (Ok tt) (ring_of r send receive t) (trail_of r send receive t)) (sleeper r send receive t)

-- ---- 5: it invents its record count: in some step taken it is not what the sets have lost

pub record Invents (f : Program) : Type 0 where
  pub n : ℕ
  pub bytes : ℕ
  pub low : seats_least ≤ n
  pub high : n ≤ seats_most
  pub small : bytes ≤ width * room_most
  pub bench : Bench
  pub run : Reached n (replicate bytes 0) bench
  pub marks : Marks
  pub mask : marks.receive < 2 ^ seats_most
  pub taken : tells (on f bench marks).stepped.answer ≡ done
  pub wrong : sum n (λ p. size_of (seat_of (on f bench marks).stepped.ring p).set) + (on f bench marks).stepped.ring.records ≡ n * n → ⊥

abbrev pub inventor : Program
inventor r send receive t =
    let r' = ring_of r send receive t in
    made (Ok tt) (with_counts r' r'.n r'.time (r'.records + 1)) (trail_of r send receive t)
