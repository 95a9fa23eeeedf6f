use Rattle.gen_defs.proofs.GenesisStartLemmas.{keeps-genesis-rules, are-of-sizes}
use Rattle.gen_defs.proofs.genesis.genesis_laws.Goals as goal

pub returns : goal.returns
returns c = record { keeps_genesis_rules = keeps-genesis-rules; are_of_sizes = are-of-sizes }
