use Rattle.std.proofs.Common.{◌≡◌, ◌+◌, ◌≤◌, length, take, drop}
use Rattle.verdict_defs.specs.Chain.{chain_over}
use Rattle.node_store.specs.Node.{StandsOnDisk}
use Rattle.node_store.specs.Steps.{steps_over}
use Rattle.made_chain.specs.Sessions.{items_in}
use Rattle.made_chain.proofs.playing.import_items.Given as goal

-- the node has what the items so far leave
abbrev pub invariant-importing : goal.invariant-importing
invariant-importing g l = record {
  on : StandsOnDisk l.node (g.D.Disk.reads_as l.disk) (g.D.Disk.images l.disk);
  kept : l.node.chain ≡ chain_over l.fn.opened.chain (take l.i (items_in l.items));
  unchanged : g.D.Disk.faults l.disk ≡ g.D.Disk.faults l.fn.disk;
  left : l.steps + steps_over l.node.chain (drop l.i (items_in l.items)) ≤ l.fn.steps + steps_over l.fn.opened.chain (items_in l.items);
  rising : l.fn.steps ≤ l.steps;
  within : l.i ≤ length l.items;
}
