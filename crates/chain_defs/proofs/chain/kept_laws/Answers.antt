use Rattle.chain_defs.proofs.KeptLaws.{hashes-differ}
use Rattle.chain_defs.proofs.chain.kept_laws.Goals as goal

pub returns : goal.returns
returns c = record { hashes_differ = hashes-differ }
