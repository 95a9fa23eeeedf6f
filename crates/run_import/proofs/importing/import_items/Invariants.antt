use Rattle.std.proofs.Common.{◌≡◌, ◌-◌, List}
use Rattle.outside.specs.Disk.{LeavesOnly, IsKnownAsBefore}
use Rattle.disk_defs.specs.Log.{Record}
use Rattle.disk_defs.specs.Rest.{IsSettled}
use Rattle.report_defs.specs.Report.{input_limit}
use Rattle.report_defs.specs.Survival.{NoneJoins}
use Rattle.node_store.specs.Node.{IsOwnDiskWhereTold, IsSoundWhereTold, StandsOnDisk}
use Rattle.run_import.specs.Watching.{IsSoundWatching}
use Rattle.run_import.proofs.ImportLemmas.{Whole}
use Rattle.run_import.proofs.RecordLemmas.{HasGrown}
use Rattle.run_import.proofs.importing.import_items.Given as goal

abbrev pub invariant-items : goal.invariant-items
invariant-items g l = record {
  whole : (w : Whole l.fn.watched l.fn.opened.chain l.offset (g.S.Source.left l.fn.input) (g.S.Source.left l.input) (g.K.Sink.taken l.fn.out) (g.K.Sink.taken l.out) l.node.chain l.refused
      (IsSoundWhereTold l.fn.opened (g.D.Disk.reads_as l.fn.disk)) (IsSoundWatching l.fn.watched l.node l.watch (g.D.Disk.reads_as l.disk))
      (StandsOnDisk l.fn.opened (g.D.Disk.reads_as l.fn.disk) (g.D.Disk.images l.fn.disk)) (StandsOnDisk l.node (g.D.Disk.reads_as l.disk) (g.D.Disk.images l.disk))
      (LeavesOnly g.D.Disk.moment g.D.Disk.left_since l.fn.disk l.disk) l.fn.steps l.steps)
      × (IsSoundWhereTold l.fn.opened (g.D.Disk.reads_as l.fn.disk) → NoneJoins l.fn.opened.chain w.items → g.D.Disk.content_of l.disk ≡ g.D.Disk.content_of l.fn.disk)
      × ((records : List Record) → IsSettled l.fn.opened.place records (g.D.Disk.reads_as l.fn.disk) (g.D.Disk.images l.fn.disk)
      → HasGrown w.items records l.node.place (g.D.Disk.reads_as l.disk) (g.D.Disk.images l.disk) (LeavesOnly g.D.Disk.moment g.D.Disk.left_since l.fn.disk l.disk));
  own : IsOwnDiskWhereTold l.node (g.D.Disk.reads_as l.disk) (g.D.Disk.images l.disk);
  told : IsKnownAsBefore (g.D.Disk.reads_as l.fn.disk) (g.D.Disk.reads_as l.disk);
  input_unchanged : g.S.Source.faults l.input ≡ g.S.Source.faults l.fn.input;
  out_unchanged : g.K.Sink.faults l.out ≡ g.K.Sink.faults l.fn.out;
  disk_unchanged : g.D.Disk.faults l.disk ≡ g.D.Disk.faults l.fn.disk;
}

-- the input has a limit, and each item takes some of it
abbrev pub decreases-items : goal.decreases-items
decreases-items g l = input_limit - l.offset
