use Rattle.std.proofs.Common.{◌≡◌, ◌++◌, drop}
use Rattle.cell_state.specs.ListBlocks.{id_lists, all_ids}
use Rattle.cell_state.proofs.list_blocks.proposal_ids_of_all.Given as goal

abbrev pub invariant-encodings : goal.invariant-encodings
invariant-encodings l = id_lists l.ids.items ++ all_ids (drop l.block-index l.blocks) ≡ all_ids l.blocks
