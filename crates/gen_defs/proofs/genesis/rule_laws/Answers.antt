use Rattle.gen_defs.proofs.OwedLemmas.{pays-what-is-owed}
use Rattle.gen_defs.proofs.NextLemmas.{has-its-field}
use Rattle.gen_defs.proofs.genesis.rule_laws.Goals as goal

pub returns : goal.returns
returns c = record { pays_what_is_owed = pays-what-is-owed; has_its_field = has-its-field }
