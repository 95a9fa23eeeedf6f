use Rattle.std.proofs.Common.{◌≡◌, ◌++◌, map, drop}
use Rattle.chain_defs.specs.Hashes.{proposal_id}
use Rattle.cell_state.specs.ListBlocks.{ids_of}
use Rattle.cell_state.proofs.list_blocks.proposal_ids.Given as goal

abbrev pub invariant-later : goal.invariant-later
invariant-later l = l.ids.items ++ map proposal_id (drop l.i l.block.transactions) ≡ ids_of l.block
