use Rattle.std.proofs.Common.{◌≡◌, ℕ, ◌+◌, ◌<◌, ◌≤◌, [], length, slice_index_or}
use Rattle.chain_defs.specs.Root.{node}
use Rattle.cbmt.proofs.tree.root.Given as goal

-- the nodes from j on are known
abbrev pub invariant-inner_nodes : goal.invariant-inner_nodes
invariant-inner_nodes l =
    (length l.inner.items + 1 ≡ length l.items)
    × (l.j ≤ length l.inner.items)
    × ((k : ℕ) → l.j ≤ k → k < length l.inner.items → slice_index_or l.inner.items k [] ≡ node l.items k)
