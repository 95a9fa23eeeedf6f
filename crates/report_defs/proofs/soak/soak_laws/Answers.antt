use Rattle.report_defs.proofs.ReplayLemmas.{prefixes-replay, joined-are-counted}
use Rattle.report_defs.proofs.GeneratedLemmas.{generated-name-no-later}
use Rattle.report_defs.proofs.soak.soak_laws.Goals as goal

pub returns : goal.returns
returns c = record {
  prefixes_replay = prefixes-replay;
  generated_name_no_later = generated-name-no-later c.walk_laws.ensures.parents_are_earlier c.canonical.ensures.hashes;
  joined_are_counted = joined-are-counted;
}
