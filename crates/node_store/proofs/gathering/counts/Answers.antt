use Rattle.node_store.proofs.GatherLemmas.{ext-long}
use Rattle.node_store.proofs.gathering.counts.Goals as goal

pub fees_in-requires : goal.fees_in-requires
fees_in-requires c = ext-long c.args.ext.now c.requires
