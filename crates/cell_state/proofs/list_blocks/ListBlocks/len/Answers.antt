use Rattle.std.proofs.Common.{ap, arith}
use Rattle.cell_state.specs.ListBlocks.{ListBlocksValue}
use Rattle.cell_state.proofs.ListBlockLemmas.{as_many}
use Rattle.cell_state.proofs.list_blocks.ListBlocks.len.Goals as goal

pub returns : goal.returns
returns c =
    let here = c.self.inside in
    omega (arith, c.len.ensures, as_many here.blocks.items here.exts.items c.args.self.now.stored c.self.invariant.0 (ap (λ (v : ListBlocksValue). v.stored) c.self.view_is))
