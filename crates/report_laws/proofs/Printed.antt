-- What the line of a record says: the record as it was written. Assumes nothing.
use mathlib.Core.Path.{◌≡◌, ap}
use mathlib.Core.List.{List}
use Prim.Native.Nat.{ℕ, ◌+◌, ◌*◌, ◌≤◌, ◌<◌}
use lib.ListN.{length, get_or}
use Rattle.trail.specs.Trail.{width, no_record, written}
use Rattle.trail.specs.declared.Record.{Record}
use Rattle.trail.proofs.RecordLaws.{read_back_lem}
use Rattle.report.specs.Page.{line_of_record, record_line}

pub record_printed : (modules t : List ℕ) (k : ℕ) (records : List Record) → width * (k + length records) ≤ length t → (i : ℕ) → i < length records
    → record_line modules (written t k records) (k + i) ≡ line_of_record modules (get_or records i no_record)
unfolding record_line
record_printed modules t k records fits i l = ap (line_of_record modules) (read_back_lem t k records fits i l)
