-- An item that is judged over a node and not kept.
use Rattle.std.specs.Prelude.{◌≡◌, ℕ, List, Option}
use Rattle.outside.specs.Image.{Image}
use Rattle.cell_state.specs.State.{rows}
use Rattle.verdict_defs.specs.declared.verdict.Verdict.{Verdict}
use Rattle.verdict_defs.specs.Chain.{verdict_over}
use Rattle.node_store.specs.Kept.{AreRowsOfTip}
use Rattle.node_store.specs.Node.{NodeValue, IsOwnDiskWhereTold, IsSoundWhereTold}

-- The verdict on an item over a node, and the node after it: it differs in what it holds in memory alone, and its live cells are those of the tip again.
pub record HasJudged (before after : NodeValue) (item : List ℕ) (answer : Verdict) (reads_old reads_new : Option Image) (new : Image → Type 0) : Type 0 where
  pub same : after ≡ record before { cells = after.cells; held = after.held }
  pub own : IsOwnDiskWhereTold after reads_new new
  pub cells : IsSoundWhereTold before reads_old → AreRowsOfTip before.chain.blocks (rows after.cells)
  pub verdict : IsSoundWhereTold before reads_old → answer ≡ verdict_over before.chain item
