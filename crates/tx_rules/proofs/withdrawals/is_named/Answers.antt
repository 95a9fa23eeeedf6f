use Rattle.std.proofs.Common.{◌∙◌}
use Rattle.tx_rules.proofs.SearchLemmas.{found-listed}
use Rattle.tx_rules.proofs.withdrawals.is_named.Goals as goal

pub returns : goal.returns
returns c = c.is_ok.ensures.value ∙ found-listed c.args.ordered.now c.args.block c.binary_search.result c.requires.rising c.binary_search.ensures.position
