use Rattle.gen_defs.proofs.StartLemmas.{is-read-back, first-reward}
use Rattle.gen_defs.proofs.laws.start_laws.Goals as goal

pub returns : goal.returns
returns c = record { is_read_back = is-read-back; first_reward = first-reward }
