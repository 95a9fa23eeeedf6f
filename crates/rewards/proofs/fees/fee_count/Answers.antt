use Rattle.std.proofs.Common.{arith}
use Rattle.cell_state.proofs.ExtLemmas.{fees-within}
use Rattle.rewards.proofs.fees.fee_count.Goals as goal

pub slice_bounds-four-end : goal.slice_bounds-four-end
slice_bounds-four-end c = fees-within c.args.ext.now 0 c.requires (omega arith)
