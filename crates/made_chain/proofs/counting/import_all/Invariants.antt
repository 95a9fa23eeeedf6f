use Rattle.std.proofs.Common.{◌≡◌, ◌≤◌, take}
use Rattle.node_store.specs.Node.{IsOwnDiskWhereTold, IsSoundWhereTold}
use Rattle.verdict_defs.specs.Chain.{verdicts_over, chain_over}
use Rattle.made_chain.proofs.ImportLemmas.{bytes_of, count_joined}
use Rattle.made_chain.proofs.counting.import_all.Given as goal

-- the node has what the items so far leave, and those that joined are counted
abbrev pub invariant-importing : goal.invariant-importing
invariant-importing g l = record {
  sound : IsSoundWhereTold l.node (g.D.Disk.reads_as l.disk);
  own : IsOwnDiskWhereTold l.node (g.D.Disk.reads_as l.disk) (g.D.Disk.images l.disk);
  kept : l.node.chain ≡ chain_over l.fn.opened.chain (bytes_of (take l.i l.items));
  count : l.joined ≡ count_joined (verdicts_over l.fn.opened.chain (bytes_of (take l.i l.items)));
  few : l.joined ≤ l.i;
}
