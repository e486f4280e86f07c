-- Laws of a fresh ring that is filled seat by seat. Assumes nothing.
use mathlib.Core.Path.{◌≡◌, refl}
use mathlib.Core.Bool.{true, false}
use Prim.Native.Nat.{ℕ, ◌+◌, ◌<◌}
use native.Mathlib.Omega.{arith}
use lib.ListN.{set}
use Rattle.std.specs.Prelude.{Option, None}
use Rattle.ring.specs.Ring.{zero_ring, drawn_to, with_counts, fresh_seat}
use Rattle.ring.specs.declared.Ring.{Ring}
use Rattle.lists.proofs.Counted.{draw_next, drawn_alike}

-- a fresh ring of n seats, of which those below p are filled
abbrev pub begun : ℕ → ℕ → Ring
begun n p = with_counts (drawn_to p zero_ring (λ q. fresh_seat n)) n 0 0

-- the two fields of seat p that are not zero, stored
abbrev pub filled : Ring → ℕ → ℕ → Ring
filled r p full = record {
  sets = set r.sets p full;
  acks = set r.acks p true;
  doubts = r.doubts;
  faults = r.faults;
  n = r.n;
  time = r.time;
  records = r.records;
}

-- nothing filled yet
pub begun_none : (n : ℕ) → with_counts zero_ring n zero_ring.time zero_ring.records ≡ begun n 0
unfolding zero_ring
begun_none n = refl

-- one more seat is filled; what is not stored is zero already
pub begun_next : (n p : ℕ) → p < 32 → filled (begun n p) p (fresh_seat n).set ≡ begun n (p + 1)
unfolding zero_ring
begun_next n p h =
    rw (draw_next p (λ q. (fresh_seat n).set) zero_ring.sets h, draw_next p (λ q. true) zero_ring.acks h, drawn_alike false 32 p (omega arith), drawn_alike false 32 (p + 1) (omega arith), drawn_alike {A = Option ℕ} None 32 p (omega arith), drawn_alike {A = Option ℕ} None 32 (p + 1) (omega arith))
