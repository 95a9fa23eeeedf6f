use Rattle.run_import.proofs.WatchLemmas.{watching-none}
use Rattle.run_import.proofs.watching.follow.Goals as goal

pub returns-in_default-clause-followed : goal.returns-in_default-clause-followed
returns-in_default-clause-followed g c watched sound at =
    watching-none watched c.args.node.now.chain.blocks c.args.from c.tip-tip.result c.args.watch
    (c.tip-tip.ensures.of_blocks c.args.node.now.chain.blocks c.tree.ensures.indexed) c.in_default.is at
