use Rattle.outside.proofs.Torn.{tears_one_part, tears_the_end, cuts_the_end, tears_to_the_written, cuts_to_any_length, keeps_others}
use Rattle.outside.proofs.laws.disk_laws.Goals as goal

pub returns : goal.returns
returns c = record {
  tears_one_part = tears_one_part;
  tears_the_end = tears_the_end;
  cuts_the_end = cuts_the_end;
  tears_to_the_written = tears_to_the_written;
  cuts_to_any_length = cuts_to_any_length;
  keeps_others = keeps_others;
}
