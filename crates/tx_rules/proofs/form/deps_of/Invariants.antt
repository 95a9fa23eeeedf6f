use Rattle.std.proofs.Common.{◌≡◌, map, take}
use Rattle.chain_defs.specs.Shape.{encoded}
use Rattle.chain_defs.specs.Schema.{cell_dep}
use Rattle.tx_rules.proofs.form.deps_of.Given as goal

-- those before the i-th
abbrev pub invariant-deps : goal.invariant-deps
invariant-deps l = l.deps.items ≡ take l.i (map (encoded cell_dep) l.tx.raw.cell_deps)
