use Rattle.node_store.specs.Node.{IsOwnDiskWhereTold}
use Rattle.run_vectors.proofs.caches.joined_of.Given as goal

-- the disk is the node's own
abbrev pub invariant-items : goal.invariant-items
invariant-items g l = IsOwnDiskWhereTold l.node (g.D.Disk.reads_as l.disk) (g.D.Disk.images l.disk)
