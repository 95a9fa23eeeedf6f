use Rattle.std.proofs.Common.{rules, ◌≡◌, [], refl, ap, ◌∙◌}
use Rattle.chain_defs.specs.Molecule.{full_size, header_size}
use Rattle.mol_write.specs.Builder.{fields_by_lengths}
use Rattle.mol_write.proofs.builder.Builder.new.Goals as goal

pub returns-clause-empty : goal.returns-clause-empty
unfolding fields_by_lengths
returns-clause-empty c = search rules

none_size : full_size [] ≡ 4
unfolding full_size header_size
none_size = refl

pub returns-clause-size : goal.returns-clause-size
returns-clause-size c = ap full_size (returns-clause-empty c) ∙ none_size
