use Rattle.disk_defs.proofs.Records.{reads_the_records, keeps_the_records, ends_the_records}
use Rattle.disk_defs.proofs.Contents.{gives_the_parts}
use Rattle.disk_defs.proofs.grammar.record_laws.Goals as goal

pub returns : goal.returns
returns c = record {
  reads_the_records = reads_the_records;
  keeps_the_records = keeps_the_records;
  ends_the_records = ends_the_records;
  gives_the_parts = gives_the_parts;
}
