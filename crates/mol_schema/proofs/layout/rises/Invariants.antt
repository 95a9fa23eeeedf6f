use Rattle.std.proofs.Common.{◌≡◌, ℕ, ◌+◌, ◌<◌, ◌≤◌}
use Rattle.chain_defs.specs.Molecule.{part_start}
use Rattle.mol_schema.proofs.layout.rises.Given as goal

abbrev pub invariant-loop-i : goal.invariant-loop-i
invariant-loop-i l = (l.from ≡ part_start l.bytes l.i) × ((k : ℕ) → k < l.i → part_start l.bytes k ≤ part_start l.bytes (k + 1))
