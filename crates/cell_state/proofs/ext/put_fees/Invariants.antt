use Rattle.std.proofs.Common.{◌≡◌, ◌++◌, length, map, take}
use Rattle.std.specs.List.{concat}
use Rattle.std.specs.Int.{w32, w64, to_le_bytes}
use Rattle.cell_state.proofs.ext.put_fees.Given as goal

abbrev pub invariant-fees : goal.invariant-fees
invariant-fees l = l.bytes.items ≡ l.fn.bytes.items ++ to_le_bytes w32 (length l.fees) ++ concat (map (to_le_bytes w64) (take l.fee-index l.fees))
