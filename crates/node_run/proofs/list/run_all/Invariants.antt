use Rattle.std.proofs.Common.{◌≡◌, List, length, take, drop}
use Rattle.report_defs.specs.Survival.{Run}
use Rattle.node_run.specs.Runs.{AreCallsOf}
use Rattle.node_run.proofs.list.run_all.Given as goal

abbrev pub invariant-loop-at : goal.invariant-loop-at
invariant-loop-at g l = ((runs : List Run) × AreCallsOf g.S.Source.left g.S.Source.faults g.K.Sink.taken g.K.Sink.faults g.D.Disk.reads_as g.D.Disk.images g.D.Disk.moment
    g.D.Disk.left_since g.D.Disk.faults g.D.Crashing.picks (take l.at l.fn.calls) (take l.at l.calls) l.fn.disk l.disk runs)
    × (length l.calls ≡ length l.fn.calls) × (drop l.at l.calls ≡ drop l.at l.fn.calls)
