use Rattle.disk_defs.proofs.AreaLaws.{goes-by-parity, none-in-the-log, areas-take-turns}
use Rattle.disk_defs.proofs.areas.areas_in_turn.Goals as goal

pub returns : goal.returns
returns c = record { goes_by_parity = goes-by-parity; none_in_the_log = none-in-the-log; areas_take_turns = areas-take-turns }
