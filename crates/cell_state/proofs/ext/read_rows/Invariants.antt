use Rattle.std.proofs.Common.{◌≡◌, ◌-◌, ◌*◌, length, map, take, drop}
use Rattle.std.specs.List.{All, concat}
use Rattle.chain_defs.specs.Ext.{row_bytes, are_rows}
use Rattle.chain_defs.specs.Fits.{FitsRow}
use Rattle.cell_state.proofs.ext.read_rows.Given as goal

abbrev pub invariant-rows : goal.invariant-rows
invariant-rows l = record {
  count : length l.rows.items ≡ l.i;
  bytes : concat (map row_bytes l.rows.items) ≡ take (161 * l.i) l.bytes;
  form : are_rows l.count l.bytes ≡ are_rows (l.count - l.i) (drop (161 * l.i) l.bytes);
  fits : All FitsRow l.rows.items;
}
