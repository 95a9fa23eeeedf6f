use Rattle.node_store.proofs.node.Node.live.Goals as goal

pub live-requires : goal.live-requires
live-requires c = record { below = c.self.invariant.below }
