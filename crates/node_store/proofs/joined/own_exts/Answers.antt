use Rattle.node_store.proofs.FitLaws.{exts-fit, joined-exts-fit}
use Rattle.node_store.proofs.joined.own_exts.Goals as goal

pub returns : goal.returns
returns c = record { fit = exts-fit; of_joined_fit = joined-exts-fit }
