use Rattle.std.proofs.Common.{◌<◌, ℕ}
use Rattle.chain_defs.specs.Shape.{table_field}
use Rattle.mol_schema.proofs.check.is_list_of.Given as goal

-- the items so far were checked
abbrev pub invariant-loop-i : goal.invariant-loop-i
invariant-loop-i g l = (k : ℕ) → k < l.i → g.R.Row.IsChecked (table_field l.b k)
