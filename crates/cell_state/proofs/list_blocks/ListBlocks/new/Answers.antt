use Rattle.cell_state.proofs.ListBlockLemmas.{blocks-stored_from, exts-stored_from}
use Rattle.cell_state.specs.ListBlocks.{contents}
use Rattle.cell_state.proofs.list_blocks.ListBlocks.new.Goals as goal

pub returns-clause-blocks : goal.returns-clause-blocks
returns-clause-blocks c =
    blocks-stored_from (contents c.args.blocks.items) (contents c.args.exts.items) c.requires.lengths c.requires.canonical

pub returns-clause-exts : goal.returns-clause-exts
returns-clause-exts c = exts-stored_from (contents c.args.blocks.items) (contents c.args.exts.items) c.requires.lengths
