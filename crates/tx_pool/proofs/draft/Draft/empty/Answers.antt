use Rattle.block_judge.proofs.NextLemmas.{few-cycles}
use Rattle.tx_pool.proofs.draft.Draft.empty.Goals as goal

pub returns-clause-few : goal.returns-clause-few
returns-clause-few g c = few-cycles c.spec.inside.max_cycles c.spec.invariant.s5
