use Rattle.std.proofs.Common.{List, ℕ, [], ◌∷◌, ap, ◌∙◌}
use Rattle.chain_defs.specs.Molecule as molecule
use Rattle.gen_defs.specs.Start as start
use Rattle.chain_gen.proofs.Contents.{genesis_parts_are}
use Rattle.chain_gen.proofs.growth.genesis.Goals as goal

pub returns : goal.returns
returns c =
    let transactions = c.deref-2.ensures.value ∙ c.in_ok-transactions.ensures.bytes
    ∙ ap (λ (l : List ℕ). molecule.dynvec (l ∷ [])) (c.deref.ensures.value ∙ c.requires.transaction.bytes_are) in
    c.block_table.ensures.bytes start.genesis (genesis_parts_are _ _ c.requires.header transactions)
