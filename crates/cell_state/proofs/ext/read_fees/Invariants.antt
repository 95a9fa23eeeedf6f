use Rattle.std.proofs.Common.{◌≡◌, ◌*◌, ◌<◌, ◌^◌, length, map, take}
use Rattle.std.specs.List.{All, concat}
use Rattle.std.specs.Int.{w64, to_le_bytes}
use Rattle.cell_state.proofs.ext.read_fees.Given as goal

abbrev pub invariant-fees : goal.invariant-fees
invariant-fees l = record {
  count : length l.fees.items ≡ l.i;
  bytes : concat (map (to_le_bytes w64) l.fees.items) ≡ take (8 * l.i) l.bytes;
  fits : All (λ fee. fee < 2 ^ 64) l.fees.items;
}
