use Rattle.std.proofs.Common.{List, ◌++◌, ◌∷◌, [], length, ap, ◌∙◌, arith}
use Rattle.chain_tree.specs.Told.{Stored}
use Rattle.log_file.proofs.Judging.{kept_limit_is, genesis_blocks}
use Rattle.log_file.proofs.blocks.begin.Goals as goal

pub visit-requires-clause-few : goal.visit-requires-clause-few
visit-requires-clause-few g c = omega (arith, ap length c.requires.none, kept_limit_is)

pub returns-in-Ok-new-clause-blocks : goal.returns-in-Ok-new-clause-blocks
returns-in-Ok-new-clause-blocks g c =
    genesis_blocks _ _ c.args.body.now c.in-Ok.block c.in-Ok.ensures.decoded
    (c.in-Ok-visit.ensures ∙ ap (λ (l : List Stored). l ++ record { block = c.in-Ok.block; ext = [] } ∷ []) c.requires.none)
    (c.in-Ok-new.ensures.of_blocks c.in-Ok.block c.entry_of-entry.ensures.describes)
