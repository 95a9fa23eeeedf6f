use Rattle.disk_defs.proofs.Contents.{says_its_records, says_by_parts, adds_a_block, begins_well}
use Rattle.disk_defs.proofs.Stopping.{stops_at_its_end}
use Rattle.disk_defs.proofs.grammar.log_laws.Goals as goal

pub returns : goal.returns
returns c = record { says_its_records = says_its_records; says_by_parts = says_by_parts; adds_a_block = adds_a_block; begins_well = begins_well; stops_at_its_end = stops_at_its_end }
