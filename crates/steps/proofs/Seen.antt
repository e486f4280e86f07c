-- What a seat sees of a slot, as the table takes it. Assumes nothing.
use mathlib.Core.Path.{◌≡◌, refl}
use mathlib.Core.Bool.{Bool, true, false, cond, not, ◌&&◌}
use Rattle.std.proofs.Common.{Some, None}
use Rattle.turn.specs.Table.{table, arrived, bit_of}
use Rattle.turn.specs.Turn.{sees, is_missed}

-- the bit arrives where the owner speaks and the seat has no receive mark
pub view_table : (speaks marked bit ack doubt : Bool) → let view = sees (cond speaks (Some bit) None) marked in
    table (arrived view) (bit_of view) ack doubt ≡ table (speaks && not marked) bit ack doubt
view_table true true bit true doubt = refl
view_table true true bit false doubt = refl
view_table true false bit ack doubt = refl
view_table false marked bit true doubt = refl
view_table false marked bit false doubt = refl

-- and a receive mark takes hold where the owner speaks
pub view_missed : (speaks marked bit : Bool) → is_missed (sees (cond speaks (Some bit) None) marked) ≡ (speaks && marked)
view_missed true true bit = refl
view_missed true false bit = refl
view_missed false marked bit = refl
