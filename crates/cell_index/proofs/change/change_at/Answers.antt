use Rattle.std.proofs.Common.{◌≡◌, None, ◌∙◌, subst}
use Rattle.chain_defs.specs.Schema.{Block}
use Rattle.chain_tree.specs.Told.{Stored}
use Rattle.chain_defs.specs.Events.{events_of_block}
use Rattle.chain_defs.specs.Row.{row_after, ListsRows}
use Rattle.cell_state.proofs.ToldLemmas.{told-it}
use Rattle.cell_index.proofs.change.change_at.Goals as goal

pub returns-in-Ok-left_by-clause-left : goal.returns-in-Ok-left_by-clause-left
returns-in-Ok-left_by-clause-left g c stored it height tells there above =
    let block : c.block.result ≡ it.block =
    told-it (λ (s : Stored). c.block.result ≡ s.block) stored c.args.place it _ _ (c.in-Ok.ensures.read.told ∙ tells) c.in-Ok.ensures.taken there c.block.ensures in
    subst (λ (b : Block). ListsRows (row_after c.args.place (events_of_block height b) (λ _. None)) c.in-Ok-left_by.left.items) block (c.in-Ok-left_by.ensures height above)
