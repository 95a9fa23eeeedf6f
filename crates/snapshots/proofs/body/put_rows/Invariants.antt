use Rattle.std.proofs.Common.{◌≡◌, ◌++◌, map, take}
use Rattle.std.specs.List.{All, concat}
use Rattle.chain_defs.specs.Ext.{row_bytes}
use Rattle.chain_defs.specs.Fits.{FitsRow}
use Rattle.snapshots.proofs.body.put_rows.Given as goal

abbrev pub invariant-rows : goal.invariant-rows
invariant-rows l = record {
  written : l.bytes.items ≡ l.fn.bytes.items ++ concat (map row_bytes (take l.o-index l.rows));
  fits : All FitsRow (take l.o-index l.rows);
}
