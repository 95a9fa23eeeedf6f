use Rattle.node_store.proofs.FeeLaws.{exts-keep-fees}
use Rattle.node_store.proofs.joined.fees_of_joined.Goals as goal

pub returns : goal.returns
returns c = record { exts_keep_fees = exts-keep-fees }
