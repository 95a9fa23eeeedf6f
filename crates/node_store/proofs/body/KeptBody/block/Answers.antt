use Rattle.std.proofs.Common.{◌-◌, ℕ, List, take, drop, ap, ◌∙◌}
use Rattle.chain_defs.specs.Schema.{block}
use Rattle.chain_defs.proofs.ShapeLaws.{IsEncoding-decoded}
use Rattle.chain_tree.specs.Told.{Stored}
use Rattle.cell_state.specs.ListBlocks.{IsCanonical}
use Rattle.cell_state.proofs.ListBlockLemmas.{canonical-decoded}
use Rattle.node_store.proofs.body.KeptBody.block.Goals as goal

pub from_encoding-requires : goal.from_encoding-requires
from_encoding-requires c =
    let here = c.self.inside in
    let canonical : IsCanonical (take (here.end - here.start) (drop here.start c.deref.result.now)) = rw c.deref.ensures.value c.self.invariant.2 in
    (_, IsEncoding-decoded block _ _ (canonical-decoded _ canonical))

pub returns : goal.returns
returns c =
    let here = c.self.inside in
    let canonical : IsCanonical (take (here.end - here.start) (drop here.start c.deref.result.now)) = rw c.deref.ensures.value c.self.invariant.2 in
    c.from_encoding.ensures _ (IsEncoding-decoded block _ _ (canonical-decoded _ canonical))
    ∙ ap (λ (bytes : List ℕ). block.decoding (take (here.end - here.start) (drop here.start bytes))) c.deref.ensures.value
    ∙ ap (λ (it : Stored). it.block) c.self.view_is
