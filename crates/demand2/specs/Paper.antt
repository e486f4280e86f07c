-- The protocol of document 002 with the correction of its footnote 4, in its own words, beside the engine's
-- definitions.
use Rattle.std.specs.Prelude.{Bool, true, false, cond, not, ◌&&◌, ◌||◌, List, [], ◌∷◌, ℕ, ◌%◌, eqb}
use Rattle.seats.specs.Sets.{has_seat}
use Rattle.ring.specs.Ring.{seat_of}
use Rattle.ring.specs.declared.Ring.{Ring}
use Rattle.turn.specs.declared.Cause.TheVariants.{A, B, C, D, E}
use Rattle.turn.specs.declared.Removal.{Removal}
use Rattle.turn.specs.declared.Removal.TheVariants.{Nobody, Itself, Owner, Both}
use Rattle.steps.specs.Run.{Marks, Bench, Reached, start, taken}

-- ---- what each processor has

-- the broadcaster b of the slot: slot(b) = time mod n
abbrev pub broadcaster : Ring → ℕ
broadcaster r = r.time % r.n

-- q is in p's local membership set
abbrev pub membership : Ring → ℕ → ℕ → Bool
membership r p q = has_seat (seat_of r p).set q

-- ack(p)
abbrev pub ack : Ring → ℕ → Bool
ack r p = (seat_of r p).ack

-- p expects a broadcast: it is in its own membership set, and so is the broadcaster
abbrev pub expects : Ring → ℕ → Bool
expects r p = membership r p p && membership r p (broadcaster r)

-- ---- the broadcast

-- it is attempted if b is in its own membership set, and succeeds if b is not send-faulty in that step
abbrev pub broadcasts : Ring → Marks → Bool
broadcasts r m = membership r (broadcaster r) (broadcaster r) && not m.send

-- arrived(b, p): p receives a broadcast from b, and b is the expected broadcaster
abbrev pub arrived : Ring → Marks → ℕ → Bool
arrived r m p = membership r p (broadcaster r) && broadcasts r m && not (has_seat m.receive p)

-- ---- the rules for a processor p that expects the broadcaster b and is not b

-- what p decides from; ack(b) is that of the broadcast received
pub record Knows : Type 0 where
  pub arrived : Bool
  pub ack_b : Bool
  pub ack_p : Bool
  -- footnote 4: p was the previous broadcaster and sent a false ack in that broadcast
  pub sent_false : Bool

-- (a) (NOT arrived(b,p)) AND NOT ack(p)
abbrev pub case_a : Knows → Bool
case_a k = not k.arrived && not k.ack_p

-- (b) arrived(b,p) AND ack(b) AND NOT ack(p)
abbrev pub case_b : Knows → Bool
case_b k = k.arrived && k.ack_b && not k.ack_p

-- (c) NOT arrived(b,p)
abbrev pub case_c : Knows → Bool
case_c k = not k.arrived

-- (d) ack(p) AND NOT ack(b)
abbrev pub case_d : Knows → Bool
case_d k = k.ack_p && not k.ack_b

-- footnote 4: (d) by a broadcast that arrived, where p was the previous broadcaster and sent a false ack
abbrev pub case_e : Knows → Bool
case_e k = k.arrived && case_d k && k.sent_false

-- what p does: whether it excludes itself and whether it excludes b, for which causes, and its updated ack
pub record Does : Type 0 where
  pub itself : Bool
  pub broadcaster : Bool
  pub causes : Removal
  pub ack : Bool

-- p is excluded in the cases (a) and (b), and by the footnote; b is excluded in the cases (c) and (d), and
-- not where the footnote excludes p
abbrev pub does : Knows → Does
does k = record {
  itself = case_a k || case_b k || case_e k;
  broadcaster = case_c k || (case_d k && not (case_e k));
  causes =
      cond (case_a k) (Both A C)
      (cond (case_b k) (Itself B) (cond (case_e k) (Itself E) (cond (case_c k) (Owner C) (cond (case_d k) (Owner D) Nobody))));
  ack = k.arrived && (k.ack_b || not k.ack_p);
}

-- ---- one processor in one step

-- its membership set after it, member by member, and its ack
pub record Updated : Type 0 where
  pub membership : ℕ → Bool
  pub ack : Bool

abbrev pub knows_in : Ring → Marks → Bool → ℕ → Knows
knows_in r m sent_false p = record { arrived = arrived r m p; ack_b = ack r (broadcaster r); ack_p = ack r p; sent_false = sent_false }

-- membership: the same but possibly for p and b
abbrev pub received : Ring → ℕ → Does → Updated
received r p d = record {
  membership = λ q. membership r p q && not (d.itself && eqb q p) && not (d.broadcaster && eqb q (broadcaster r));
  ack = d.ack;
}

-- where b is not in p's membership set, none of the local variables are changed; the broadcaster sets its ack
-- to true; any other is updated
abbrev pub updated : Ring → Marks → Bool → ℕ → Updated
updated r m sent_false p =
    cond (membership r p (broadcaster r))
    (cond (eqb p (broadcaster r)) (record { membership = membership r p; ack = true }) (received r p (does (knows_in r m sent_false p))))
    (record { membership = membership r p; ack = ack r p })

-- ---- what footnote 4 asks p to know

-- the rings before each step of a run, the latest first
unfoldable pub history : {n : ℕ} {trail : List ℕ} {b : Bench} → Reached n trail b → List Ring
history start = []
history (taken {b = b} w m e) = b.ring ∷ history w

-- in the last slot that p expected, it was the broadcaster itself, and its ack before it was false
abbrev pub sent_false : ℕ → List Ring → Bool
sent_false p [] = false
sent_false p (r ∷ earlier) = cond (expects r p) (eqb p (broadcaster r) && not (ack r p)) (sent_false p earlier)
