use Rattle.std.proofs.Common.{◌≡◌}
use Rattle.std.specs.Prelude.{IsSome}
use Rattle.node_store.specs.Node.{IsSoundWhereTold}
use Rattle.run_store.specs.Keeping.{KeepsNode}
use Rattle.run_ask.specs.Finding.{HoldsCommitted}
use Rattle.run_ask.proofs.AskLemmas.{HaveAsked}
use Rattle.run_ask.proofs.asking.ask_all.Given as goal

abbrev pub invariant-lines : goal.invariant-lines
invariant-lines g l = record {
  asked : HaveAsked (IsSoundWhereTold l.fn.node (g.D.Disk.reads_as l.fn.disk)) l.fn.node.chain (g.S.Source.left l.fn.input) (g.S.Source.left l.input)
      (g.K.Sink.taken l.fn.out) (g.K.Sink.taken l.out) l.more;
  keeps : KeepsNode l.fn.node l.node (g.D.Disk.reads_as l.disk) (g.D.Disk.images l.disk);
  held : IsSome (g.D.Disk.reads_as l.fn.disk) → HoldsCommitted l.fn.node.chain l.index;
  content : g.D.Disk.content_of l.disk ≡ g.D.Disk.content_of l.fn.disk;
  input_unchanged : g.S.Source.faults l.input ≡ g.S.Source.faults l.fn.input;
  out_unchanged : g.K.Sink.faults l.out ≡ g.K.Sink.faults l.fn.out;
  disk_unchanged : g.D.Disk.faults l.disk ≡ g.D.Disk.faults l.fn.disk;
}

abbrev pub decreases-lines : goal.decreases-lines
decreases-lines g l = l.more
