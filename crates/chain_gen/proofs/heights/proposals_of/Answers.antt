use Rattle.std.proofs.Common.{ℕ, List, Option, ap, sym, ◌∙◌}
use Rattle.chain_defs.specs.Molecule as molecule
use Rattle.chain_gen.specs.Content.{listed}
use Rattle.chain_gen.proofs.Parts.{no_items}
use Rattle.chain_gen.proofs.heights.proposals_of.Goals as goal

pub returns-in_ok-from_slice-in-None-clause-list : goal.returns-in_ok-from_slice-in-None-clause-list
returns-in_ok-from_slice-in-None-clause-list c =
    c.in_ok-from_slice-in-None.ensures.items ∙ no_items ∙ ap (λ (id : Option (List ℕ)). molecule.fixvec (listed id)) (sym c.in-None.is)
