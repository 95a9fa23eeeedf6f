use Rattle.gen_defs.proofs.Walks.{parents-are-earlier, times-follow-heights}
use Rattle.gen_defs.proofs.laws.walk_laws.Goals as goal

pub returns : goal.returns
returns c = record { parents_are_earlier = parents-are-earlier; times_follow_heights = times-follow-heights }
