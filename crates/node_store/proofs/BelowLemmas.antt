-- Each row of the live cells of a snapshot is of a kept block.
use Rattle.std.proofs.Common.{◌≡◌, ℕ, List, Option, Some, subst, arith}
use Rattle.std.specs.Prelude.{IfSome}
use Rattle.chain_defs.specs.Schema.{Block}
use Rattle.cell_state.specs.State.{StateValue, rows}
use Rattle.chain_tree.specs.declared.entry.Entry.{Entry}
use Rattle.chain_tree.specs.Blocks.{IndexesBlocks}
use Rattle.chain_tree.proofs.BlockLemmas.{len-same}
use Rattle.snapshots.specs.Reading.{AreWithin}
use Rattle.node_store.specs.Kept.{AreRowsOfKept}

-- those of a snapshot of the tree
pub below-loaded : (kept : List Block) (entries : List Entry) (found : Option (ℕ × ℕ × StateValue)) (it : ℕ × ℕ × StateValue) → found ≡ Some it
    → IndexesBlocks kept entries → IfSome found (λ it. AreWithin entries it.1 it.2) → AreRowsOfKept kept (rows it.2)
below-loaded kept entries found it is indexed within o row there =
    let here : AreWithin entries it.1 it.2 = subst (λ (o : Option (ℕ × ℕ × StateValue)). IfSome o (λ it. AreWithin entries it.1 it.2)) is within in
    let below = (here.rows o row there).block in
    omega (arith, below, len-same kept entries indexed)
