use Rattle.std.proofs.Common.{◌≡◌, ◌+◌, ◌++◌, drop}
use Rattle.std.specs.Prelude.{sum}
use Rattle.mol_write.proofs.Fields.{offsets_by}
use Rattle.mol_write.proofs.builder.push_offsets.Given as goal

-- what is written, and the offsets that are left
abbrev pub invariant-offsets : goal.invariant-offsets
invariant-offsets l =
    (l.at + sum (drop l.length-index l.lengths) ≡ l.start + sum l.lengths)
    × (l.bytes.items ++ offsets_by l.at (drop l.length-index l.lengths) ≡ l.fn.bytes.items ++ offsets_by l.start l.lengths)
