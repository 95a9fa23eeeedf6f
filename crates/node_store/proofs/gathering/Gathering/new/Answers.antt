use Rattle.node_store.proofs.GatherLemmas.{gathered-none}
use Rattle.node_store.proofs.gathering.Gathering.new.Goals as goal

pub invariant_of-result : goal.invariant_of-result
invariant_of-result c = gathered-none c.new.result.stored c.new-2.result c.new.ensures c.new-2.ensures
