use Rattle.node_store.proofs.CanonicalLaws.{kept-are-canonical, stored-are-canonical}
use Rattle.node_store.proofs.joined.kept_blocks.Goals as goal

pub returns : goal.returns
returns c = record { canonical = kept-are-canonical; canonical_in_store = stored-are-canonical }
