use Rattle.store_defs.proofs.Joining.{takes_what_joins}
use Rattle.store_defs.proofs.laws.join_laws.Goals as goal

pub returns : goal.returns
returns c = record { takes_what_joins = takes_what_joins }
