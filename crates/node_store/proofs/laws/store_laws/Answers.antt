use Rattle.node_store.proofs.LogLemmas.{log_has_records, reads_its_record, says_what_is_kept, log_has_blocks, says_what_is_opened, opens_known, follows_the_log, passes_editions, says_one_more, adds_a_record}
use Rattle.node_store.proofs.AgreeLemmas.{agrees_always, keeps_after_append}
use Rattle.node_store.proofs.laws.store_laws.Goals as goal

pub returns : goal.returns
returns c = record {
  log_has_records = log_has_records;
  reads_its_record = reads_its_record;
  says_what_is_kept = says_what_is_kept;
  log_has_blocks = log_has_blocks;
  says_what_is_opened = says_what_is_opened;
  opens_known = opens_known;
  agrees_always = agrees_always;
  keeps_after_append = keeps_after_append;
  follows_the_log = follows_the_log;
  passes_editions = passes_editions;
  says_one_more = says_one_more;
  adds_a_record = adds_a_record;
}
