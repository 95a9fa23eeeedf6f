use Rattle.std.proofs.Common.{◌≡◌, ◌<◌, length, Option, Some, sym, ◌∙◌, subst, arith}
use Rattle.chain_defs.specs.Shape.{IsEncoding}
use Rattle.chain_defs.specs.Schema.{Block, transaction}
use Rattle.chain_defs.specs.Kept.{block_at}
use Rattle.chain_tree.specs.Told.{blocks_of}
use Rattle.rule_defs.specs.Payment.{owed_to, lock_of}
use Rattle.pool_defs.specs.Start.{owed_outputs, cellbase_with}
use Rattle.tx_pool.proofs.CellbaseLemmas.{told-length, block-brought}
use Rattle.tx_pool.proofs.cellbase.cellbase_at.Goals as goal

pub returns-in-Ok-cellbase_for-clause-cellbase : goal.returns-in-Ok-cellbase_for-clause-cellbase
returns-in-Ok-cellbase_for-clause-cellbase g c stored tells =
    let all = told-length stored (g.B.Blocks.told c.args.blocks.now) (g.B.Blocks.count c.args.blocks.now) tells (g.met.B.Blocks.told_all c.args.blocks.now) in
    let within : c.args.place < length stored = omega (arith, c.requires.within, all) in
    let here : block_at (blocks_of stored) c.args.place ≡ Some c.block.result =
    block-brought stored c.args.place c.block.result _ _ (c.in-Ok.ensures.read.told ∙ tells) c.in-Ok.ensures.taken within c.block.ensures in
    subst (λ (paid : Option Block). IsEncoding transaction c.in-Ok-cellbase_for.bytes.items (cellbase_with c.args.height (owed_outputs (owed_to (lock_of paid) c.args.reward)) c.args.witness.now))
    (sym here) c.in-Ok-cellbase_for.ensures.cellbase
