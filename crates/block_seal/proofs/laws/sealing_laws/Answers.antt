use Rattle.block_seal.proofs.Commits.{commits}
use Rattle.block_seal.proofs.Genesis.{genesis-rules}
use Rattle.block_seal.proofs.laws.sealing_laws.Goals as goal

pub returns-clause-commitments : goal.returns-clause-commitments
returns-clause-commitments c = commits

pub returns-clause-genesis : goal.returns-clause-genesis
returns-clause-genesis c = genesis-rules
