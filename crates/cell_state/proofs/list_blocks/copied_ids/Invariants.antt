use Rattle.std.proofs.Common.{◌≡◌, take}
use Rattle.cell_state.proofs.list_blocks.copied_ids.Given as goal

abbrev pub invariant-ids : goal.invariant-ids
invariant-ids l = l.copied.items ≡ take l.i l.ids
