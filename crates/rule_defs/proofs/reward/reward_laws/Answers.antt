use Rattle.rule_defs.proofs.PartLaws.{commits-in-its-window, part-stays}
use Rattle.rule_defs.proofs.reward.reward_laws.Goals as goal

pub returns : goal.returns
returns c = record { commits_in_its_window = commits-in-its-window; part_stays = part-stays }
