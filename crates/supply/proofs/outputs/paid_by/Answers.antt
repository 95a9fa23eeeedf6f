use Rattle.std.proofs.Common.{◌∙◌}
use Rattle.supply.proofs.SumLemmas.{paid-first}
use Rattle.supply.proofs.outputs.paid_by.Goals as goal

pub returns-clause-paid : goal.returns-clause-paid
returns-clause-paid c = c.held_out.ensures.held ∙ paid-first c.args.block.now c.transactions_item.result c.transactions_item.ensures
