use Rattle.node_store.proofs.WayLaws.{joined-can-be-taken-back}
use Rattle.node_store.proofs.joined.way_of_joined.Goals as goal

pub returns : goal.returns
returns c = record { can_be_taken_back = joined-can-be-taken-back }
