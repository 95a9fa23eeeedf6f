use Rattle.chain_defs.proofs.ForkOnce.{any-two-fork-once}
use Rattle.chain_defs.proofs.fork.forks.Goals as goal

pub returns : goal.returns
returns c = record { once = any-two-fork-once }
