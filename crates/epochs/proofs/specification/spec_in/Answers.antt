use Rattle.std.proofs.Common.{rules}
use Rattle.chain_defs.specs.Specification.{specification_of}
use Rattle.epochs.proofs.specification.spec_in.Goals as goal

pub returns : goal.returns
unfolding specification_of
returns c = search rules
