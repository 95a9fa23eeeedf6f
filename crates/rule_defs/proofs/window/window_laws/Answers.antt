use Rattle.rule_defs.proofs.WindowLaws.{earliest-is-earliest, uncles-only-add, earliest-stays}
use Rattle.rule_defs.proofs.window.window_laws.Goals as goal

pub returns : goal.returns
returns c = record { is_earliest = earliest-is-earliest; uncles_only_add = uncles-only-add; earliest_stays = earliest-stays }
