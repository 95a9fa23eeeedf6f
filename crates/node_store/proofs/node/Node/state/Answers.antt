use Rattle.std.proofs.Common.{subst}
use Rattle.cell_state.specs.State.{rows}
use Rattle.node_store.specs.Node.{NodeValue}
use Rattle.node_store.specs.Kept.{AreRowsOfKept}
use Rattle.node_store.proofs.node.Node.state.Goals as goal

pub returns-clause-below : goal.returns-clause-below
returns-clause-below c = subst (λ (v : NodeValue). AreRowsOfKept v.chain.blocks (rows c.self.inside.state)) c.self.view_is c.self.invariant.below
