-- The records of a step in the trail after it: those before them are as they were, and they are read back as
-- written. Assumes nothing.
use mathlib.Core.Path.{◌≡◌}
use mathlib.Core.List.{List}
use mathlib.Core.Logic.{◌⊎◌, ⊎_elim, inl, inr}
use Prim.Native.Nat.{ℕ, ◌+◌, ◌*◌, ◌≤◌, ◌<◌}
use native.Mathlib.Omega.{arith}
use lib.ListN.{length, get_or}
use Rattle.lists.specs.Counted.{joined}
use Rattle.turn.specs.declared.Slot.{Slot}
use Rattle.trail.specs.Trail.{width, record_at, no_record}
use Rattle.trail.specs.declared.Record.{Record}
use Rattle.trail.proofs.RecordLaws as trails
use Rattle.ring.specs.Step.{count_in, records_at, trail_after}
use Rattle.ring.specs.declared.Ring.{Ring}
use Rattle.ring.proofs.Records.{length_all}

-- all of them, by holder
unfoldable pub records_in : Ring → Slot → List Record
records_in r c = joined r.n (records_at r c)

module _ (r : Ring) (c : Slot) where
  pub records_count : length (records_in r c) ≡ count_in r c
  unfolding records_in
  records_count = length_all r c r.n

  module _ (t : List ℕ) (fits : width * (r.records + count_in r c) ≤ length t) where
    fit : width * (r.records + length (records_in r c)) ≤ length t
    fit = let e = records_count in omega arith

    pub record_before : (i : ℕ) → i < r.records → record_at (trail_after r c t) i ≡ record_at t i
    unfolding records_in
    record_before = trails.record_before t r.records (records_in r c) fit

    pub record_within : (i : ℕ) → i < count_in r c → record_at (trail_after r c t) (r.records + i) ≡ get_or (records_in r c) i no_record
    unfolding records_in
    record_within i l = let e = records_count in trails.read_back_lem t r.records (records_in r c) fit i (omega arith)

    pub byte_outside : (j : ℕ) → (j < width * r.records) ⊎ (width * (r.records + count_in r c) ≤ j) → get_or (trail_after r c t) j 0 ≡ get_or t j 0
    unfolding records_in
    byte_outside j h =
        let e = records_count in
        trails.byte_outside t r.records (records_in r c) fit j (⊎_elim (λ l. inl l) (λ l. inr (omega arith)) h)
