-- Demand 2's protocol: a step taken gives every seat in its own set the membership set and the
-- acknowledgement bit of document 002 as corrected in its footnote 4 (specs/Paper.antt), and changes nothing
-- of a seat outside its own set. The doubt bit stands for the footnote's words 'was the previous broadcaster
-- and sent a false ack', and along any run it says just that.
use mathlib.Core.Path.{◌≡◌, refl, sym, ap, ◌∙◌, subst}
use mathlib.Core.Bool.{Bool, true, false, cond, not, ◌&&◌, true≢false, ◌||◌}
use mathlib.Core.List.{List}
use mathlib.Core.Logic.{⊎_elim}
use Prim.Native.Nat.{ℕ, ◌≤◌, ◌<◌}
use native.Mathlib.Omega.{arith}
use lib.Dec.{eqb, ltb}
use lib.ListN.{replicate}
use borrow.Author.Tests.{eq-eqb, ne_eqb, ltb-true, ltb-false}
use Rattle.std.specs.Prelude.{Ok}
use Rattle.limits.specs.Limits.{seats_least, seats_most}
use Rattle.limits.specs.Refusals.{done, tells}
use Rattle.lists.proofs.Tests.{both}
use Rattle.seats.specs.Sets.{has_seat}
use Rattle.ring.specs.Ring.{seat_of, fresh_ring, zero_ring, is_ring, every_seat_stands}
use Rattle.turn.specs.Table.{Row, table}
use Rattle.turn.specs.Turn.{other_turn, turn_of}
use Rattle.ring.specs.Step.{slot_of}
use Rattle.ring.specs.Refusals.{step_told}
use Rattle.ring.specs.Promise.{StepPromise, ring_of, trail_of}
use Rattle.ring.specs.declared.Ring.{Ring}
use Rattle.ring.specs.declared.Stepped.{Stepped}
use Rattle.turn.specs.declared.Seat.{Seat}
use Rattle.turn.specs.declared.Turn.{Turn}
use Rattle.steps.specs.Run.{Marks, quiet, missed_by, Bench, told_on, step_on, fresh_bench, Reached, start, taken}
use Rattle.turn.proofs.GoneLaws.{takes_itself, takes_owner, gone_has}
use Rattle.steps.proofs.Seen.{view_table}
use Rattle.turn.proofs.TurnLaws.{turn_elim, turn_out}
use Rattle.steps.proofs.Taken.{taken_ring}
use Rattle.steps.proofs.After.{seat_after, seat_beyond}
use Rattle.steps.proofs.Reached.{fresh_seat_lem, step_after, reached_stands}
use Rattle.demand2.specs.Story.{row_of}
use Rattle.demand2.specs.Paper.{broadcasts, broadcaster, membership, ack, expects, arrived, Knows, case_c, case_d, Does, does, knows_in, Updated, received, updated, history, sent_false}

-- ---- what is said

-- the set and the bit that a seat has are those
pub record Holds (s : Seat) (u : Updated) : Type 0 where
  pub membership : (q : ℕ) → has_seat s.set q ≡ u.membership q
  pub ack : s.ack ≡ u.ack

-- for every step that keeps the engine's promise and is taken: a seat in its own set has the paper's, its
-- doubt standing for the footnote's words
abbrev pub PaperStep : Type 0
PaperStep = (r : Ring) (m : Marks) (t : List ℕ) (s : Stepped) (t' : List ℕ) → StepPromise r m.send m.receive t s t' → tells s.answer ≡ done
    → (p : ℕ) → p < r.n → membership r p p ≡ true → Holds (seat_of s.ring p) (updated r m (seat_of r p).doubt p)

-- and a seat out of its own set is unchanged
abbrev pub OutStays : Type 0
OutStays = (r : Ring) (m : Marks) (t : List ℕ) (s : Stepped) (t' : List ℕ) → StepPromise r m.send m.receive t s t' → tells s.answer ≡ done
    → (p : ℕ) → membership r p p ≡ false → seat_of s.ring p ≡ seat_of r p

-- along any run, a seat's doubt is true exactly when the last slot that it expected was its own and its bit
-- before that slot was false
abbrev pub DoubtSays : Type 0
DoubtSays = (n : ℕ) (trail : List ℕ) → seats_least ≤ n → n ≤ seats_most → (b : Bench) (w : Reached n trail b) → (p : ℕ) → p < n
    → (seat_of b.ring p).doubt ≡ sent_false p (history w)

-- so every step taken of any run is the paper's, footnote and all
abbrev pub PaperRun : Type 0
PaperRun = (n : ℕ) (trail : List ℕ) → seats_least ≤ n → n ≤ seats_most → (b : Bench) (w : Reached n trail b) (m : Marks) → told_on m b ≡ done
    → (p : ℕ) → p < n → membership b.ring p p ≡ true → Holds (seat_of (step_on m b).ring p) (updated b.ring m (sent_false p (history w)) p)

-- the causes that a deciding seat's row of the table gives are the paper's cases: a to d by their letters, e
-- for the footnote
abbrev pub PaperCauses : Type 0
PaperCauses = (r : Ring) (m : Marks) (p : ℕ) → membership r p (broadcaster r) ≡ true
    → (row_of r (slot_of r m.send m.receive) p).removed ≡ (does (knows_in r m (seat_of r p).doubt p)).causes

-- the paper's own remark on the rules as they stand before the footnote: the updated ack is true where p
-- retains b
abbrev pub AckRetains : Type 0
AckRetains = (k : Knows) → (does k).ack ≡ not (case_c k || case_d k)

-- ---- the table is the paper's rules

row_does : Row → Does
row_does x = record { itself = takes_itself x.removed; broadcaster = takes_owner x.removed; causes = x.removed; ack = x.ack }

knows : Bool → Bool → Bool → Bool → Knows
knows a bit own d = record { arrived = a; ack_b = bit; ack_p = own; sent_false = d }

table_does : (a bit own d : Bool) → row_does (table a bit own d) ≡ does (knows a bit own d)
unfolding row_does knows
table_does true true true d = refl
table_does true true false d = refl
table_does true false true false = refl
table_does true false true true = refl
table_does true false false d = refl
table_does false bit true d = refl
table_does false bit false d = refl

-- ---- the three ways of the paper

module _ (r : Ring) (m : Marks) (d : Bool) (p : ℕ) where
  updated_own : membership r p (broadcaster r) ≡ true → p ≡ broadcaster r → record { membership = membership r p; ack = true } ≡ updated r m d p
  updated_own h e = rw (h, eq-eqb p (broadcaster r) e)

  updated-received : membership r p (broadcaster r) ≡ true → (p ≡ broadcaster r → ⊥) → received r p (does (knows_in r m d p)) ≡ updated r m d p
  updated-received h n = rw (h, ne_eqb p (broadcaster r) n)

  updated_none : membership r p (broadcaster r) ≡ false → record { membership = membership r p; ack = ack r p } ≡ updated r m d p
  updated_none h = rw h

  -- the broadcast arrives as the engine's seat sees it
  arrived_is : membership r p (broadcaster r) ≡ true
      → (broadcasts r m && not (has_seat m.receive p)) ≡ arrived r m p
  arrived_is h = rw h

module _ (r : Ring) (m : Marks) (p : ℕ) where
  -- the row of a seat that expects the owner does what the paper says
  row-does : membership r p (broadcaster r) ≡ true
      → row_does (row_of r (slot_of r m.send m.receive) p) ≡ does (knows_in r m (seat_of r p).doubt p)
  unfolding knows
  row-does g =
      let c = slot_of r m.send m.receive in
      let b = broadcaster r in
      ap row_does
      (view_table (broadcasts r m) (has_seat m.receive p) (ack r b) (ack r p) (seat_of r p).doubt
      ∙ ap (λ (x : Bool). table x (ack r b) (ack r p) (seat_of r p).doubt) (arrived_is r m (seat_of r p).doubt p g))
      ∙ table_does (arrived r m p) (ack r b) (ack r p) (seat_of r p).doubt

  other_paper : membership r p (broadcaster r) ≡ true
      → Holds (other_turn (slot_of r m.send m.receive) p (seat_of r p)).seat (received r p (row_does (row_of r (slot_of r m.send m.receive) p)))
  unfolding row_does
  other_paper g = record {
    membership = λ q. gone_has (seat_of r p).set p (broadcaster r) q (row_of r (slot_of r m.send m.receive) p).removed;
    ack = refl;
  }

  turn_paper : membership r p p ≡ true → Holds (turn_of (slot_of r m.send m.receive) p (seat_of r p)).seat (updated r m (seat_of r p).doubt p)
  turn_paper i =
      let d = (seat_of r p).doubt in
      turn_elim (slot_of r m.send m.receive) p (seat_of r p) (λ t. Holds t.seat (updated r m d p))
      (λ h. absurd (true≢false (sym i ∙ h)))
      (λ h e. subst (Holds _) (updated_own r m d p (ap (membership r p) (sym e) ∙ h) e) (record { membership = λ q. refl; ack = refl }))
      (λ h n g. subst (Holds _) (ap (received r p) (row-does g) ∙ updated-received r m d p g n) (other_paper g))
      (λ h n g. subst (Holds _) (updated_none r m d p g) (record { membership = λ q. refl; ack = refl }))

  -- ---- the doubt bit

  turn_doubt : (old : Bool) → (seat_of r p).doubt ≡ old
      → (turn_of (slot_of r m.send m.receive) p (seat_of r p)).seat.doubt ≡ cond (expects r p) (eqb p (broadcaster r) && not (ack r p)) old
  turn_doubt old k =
      turn_elim (slot_of r m.send m.receive) p (seat_of r p)
      (λ t. t.seat.doubt ≡ cond (expects r p) (eqb p (broadcaster r) && not (ack r p)) old)
      (λ h. rw h k)
      (λ h e. rw (h, ap (membership r p) (sym e) ∙ h, eq-eqb p (broadcaster r) e))
      (λ h n g. rw (h, g, ne_eqb p (broadcaster r) n))
      (λ h n g. rw (h, g) k)

-- ---- the theorems

pub paper_step : PaperStep
paper_step r m t s t' q e p l i =
    let d = sym q.answer ∙ e in
    let a = q.ring ∙ taken_ring r m.send m.receive t d in
    subst (λ (x : Seat). Holds x (updated r m (seat_of r p).doubt p))
    (sym (ap (λ (x : Ring). seat_of x p) a ∙ seat_after r (slot_of r m.send m.receive) p l))
    (turn_paper r m p i)

pub out_stays : OutStays
out_stays r m t s t' q e p o =
    let d = sym q.answer ∙ e in
    let c = slot_of r m.send m.receive in
    let a = q.ring ∙ taken_ring r m.send m.receive t d in
    ap (λ (x : Ring). seat_of x p) a
    ∙ ⊎_elim
    (λ u. seat_after r c p (ltb-true p r.n u) ∙ ap (λ (x : Turn). x.seat) (turn_out c p (seat_of r p) o))
    (λ u. seat_beyond r c p (ltb-false p r.n u))
    (both (ltb p r.n))

pub doubt_says : DoubtSays
unfolding history
doubt_says n trail low high b start p l = ap (λ (x : Seat). x.doubt) (fresh_seat_lem n p l)
doubt_says n trail low high b (taken {b = b'} w m e) p l =
    let q = (reached_stands n trail low high w).seats in
    ap (λ (x : Bench). (seat_of x.ring p).doubt) (step_after m b' e)
    ∙ ap (λ (x : Seat). x.doubt) (seat_after b'.ring (slot_of b'.ring m.send m.receive) p (omega arith))
    ∙ turn_doubt b'.ring m p (sent_false p (history w)) (doubt_says n trail low high b' w p l)

pub paper_run : PaperRun
paper_run n trail low high b w m e p l i =
    let q = (reached_stands n trail low high w).seats in
    let r = b.ring in
    let a = ap (λ (x : Bench). seat_of x.ring p) (step_after m b e) ∙ seat_after r (slot_of r m.send m.receive) p (omega arith) in
    subst (λ (x : Seat). Holds x (updated r m (sent_false p (history w)) p)) (sym a)
    (subst (λ (x : Bool). Holds (turn_of (slot_of r m.send m.receive) p (seat_of r p)).seat (updated r m x p))
    (doubt_says n trail low high b w p l) (turn_paper r m p i))

pub paper_causes : PaperCauses
unfolding row_does
paper_causes r m p g = ap (λ (x : Does). x.causes) (row-does r m p g)

pub ack_retains : AckRetains
ack_retains k = go k.arrived k.ack_b k.ack_p
  where
    go : (a bit own : Bool) → (a && (bit || not own)) ≡ not (not a || (own && not bit))
    go true true true = refl
    go true true false = refl
    go true false true = refl
    go true false false = refl
    go false bit own = refl

-- ---- one such run: 3 seats, seat 1 misses time 0 and then speaks; it doubts, and the next broadcast excludes it by the footnote

bench₀ : Bench
bench₀ = fresh_bench 3 (replicate 45 0)

bench₂ : Bench
bench₂ = step_on quiet (step_on (missed_by 1) bench₀)

run₂ : Reached 3 (replicate 45 0) bench₂
unfolding bench₀ bench₂ ring_of trail_of step_told is_ring every_seat_stands fresh_ring zero_ring turn_of
run₂ = taken (taken start (missed_by 1) refl) quiet refl

-- at time 2 it is in its own set, and has sent a false ack in its own slot; by the footnote it leaves, and
-- would stay without it
doubts : (told_on quiet bench₂ ≡ done)
    × (membership bench₂.ring 1 1 ≡ true)
    × (sent_false 1 (history run₂) ≡ true)
    × ((updated bench₂.ring quiet true 1).membership 1 ≡ false)
    × ((updated bench₂.ring quiet false 1).membership 1 ≡ true)
unfolding run₂ history bench₀ bench₂ ring_of trail_of step_told is_ring every_seat_stands fresh_ring zero_ring turn_of
doubts = (refl, refl, refl, refl, refl)

-- at time 3 it is out, and a step is taken
stays : (told_on quiet (step_on quiet bench₂) ≡ done) × (membership (step_on quiet bench₂).ring 1 1 ≡ false)
unfolding bench₀ bench₂ ring_of trail_of step_told is_ring every_seat_stands fresh_ring zero_ring turn_of
stays = (refl, refl)

-- and that step as one that keeps the engine's promise, by a seat that expects the broadcaster
kept : StepPromise bench₂.ring false 0 bench₂.trail
    (record { answer = Ok tt; ring = ring_of bench₂.ring false 0 bench₂.trail })
    (trail_of bench₂.ring false 0 bench₂.trail)
    × (membership bench₂.ring 1 (broadcaster bench₂.ring) ≡ true)
unfolding bench₀ bench₂ ring_of trail_of step_told is_ring every_seat_stands fresh_ring zero_ring turn_of
kept = (record { answer = refl; ring = refl; trail = refl }, refl)
