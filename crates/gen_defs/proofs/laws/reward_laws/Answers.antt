use Rattle.gen_defs.proofs.PaidLemmas.{pays-what-is-given}
use Rattle.gen_defs.proofs.laws.reward_laws.Goals as goal

pub returns : goal.returns
returns c = pays-what-is-given
