use Rattle.std.proofs.Common.{◌≡◌, ◌++◌, ◌*◌, true, length, map, take}
use Rattle.std.specs.List.{concat}
use Rattle.std.specs.Int.{w32, to_le_bytes}
use Rattle.chain_defs.specs.Ext.{row_bytes, are_rows}
use Rattle.cell_state.proofs.ext.put_rows.Given as goal

abbrev pub invariant-rows : goal.invariant-rows
invariant-rows l = record {
  written : l.bytes.items ≡ l.fn.bytes.items ++ to_le_bytes w32 (length l.rows) ++ concat (map row_bytes (take l.o-index l.rows));
  size : length (concat (map row_bytes (take l.o-index l.rows))) ≡ 161 * l.o-index;
  form : are_rows l.o-index (concat (map row_bytes (take l.o-index l.rows))) ≡ true;
}
