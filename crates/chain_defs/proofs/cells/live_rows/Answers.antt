use Rattle.chain_defs.proofs.CellRowLaws.{applies-in-order, grows-by-a-block}
use Rattle.chain_defs.proofs.cells.live_rows.Goals as goal

pub returns : goal.returns
returns c = record { in_order = applies-in-order; by_a_block = grows-by-a-block }
