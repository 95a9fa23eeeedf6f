use Rattle.std.proofs.Common.{◌≡◌, ◌-◌, ◌*◌, drop}
use Rattle.chain_defs.specs.Ext.{are_rows}
use Rattle.log_file.proofs.ext.are_rows.Given as goal

abbrev pub invariant-rows : goal.invariant-rows
invariant-rows l = are_rows l.count l.bytes ≡ are_rows (l.count - l.i) (drop (161 * l.i) l.bytes)
