use Rattle.std.proofs.Common.{ap}
use Rattle.cell_state.specs.ListBlocks.{ListBlocksValue}
use Rattle.cell_state.proofs.ListBlockLemmas.{place-within}
use Rattle.cell_state.proofs.list_blocks.ListBlocksBlocks.bring.Goals as goal

pub invariant_of-self : goal.invariant_of-self
invariant_of-self c =
    let here = c.self.inside in
    let stored = ap (λ (v : ListBlocksValue). v.stored) c.self.view_is in
    let within = place-within here.blocks.items here.exts.items c.args.self.now.stored c.args.e c.self.invariant.0 stored c.requires.within in
    (c.self.invariant.0, within, c.self.invariant.2)
