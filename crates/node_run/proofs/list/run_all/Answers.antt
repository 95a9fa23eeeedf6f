use Rattle.std.proofs.Common.{arith, get_or, refl}
use Rattle.node_run.proofs.ListLemmas.{next_call, all_calls, all_tell}
use Rattle.node_run.proofs.list.run_all.Goals as goal

pub loop-at-preserved : goal.loop-at-preserved
loop-at-preserved g c =
    let inv = c.loop-at.invariant in
    next_call g.S.Source.left g.S.Source.faults g.K.Sink.taken g.K.Sink.faults g.D.Disk.reads_as g.D.Disk.images g.D.Disk.moment g.D.Disk.left_since g.D.Disk.faults g.D.Crashing.picks g.met.D.Crashing.picks_images
    c.args.calls.now c.loop-at.calls c.loop-at.at (get_or c.loop-at.calls c.loop-at.at c.index-calls-at.result) c.run_call.new.call c.index-calls-at.result c.args.disk.now c.loop-at.disk c.run_call.new.disk
    (omega (arith, c.loop-at-test.true, inv.1)) inv.1 inv.2 refl inv.0 c.run_call.ensures.runs

pub returns-clause-runs : goal.returns-clause-runs
returns-clause-runs g c =
    let inv = c.loop-at.invariant in
    all_calls g.S.Source.left g.S.Source.faults g.K.Sink.taken g.K.Sink.faults g.D.Disk.reads_as g.D.Disk.images g.D.Disk.moment g.D.Disk.left_since g.D.Disk.faults g.D.Crashing.picks g.met.D.Crashing.picks_images
    c.args.calls.now c.loop-at.calls c.loop-at.at c.args.disk.now c.loop-at.disk (omega (arith, c.loop-at-test.false, inv.1)) inv.1 inv.0

pub returns-clause-told : goal.returns-clause-told
returns-clause-told g c =
    let inv = c.loop-at.invariant in
    all_tell g.S.Source.left g.S.Source.faults g.K.Sink.taken g.K.Sink.faults g.D.Disk.reads_as g.D.Disk.images g.D.Disk.moment g.D.Disk.left_since g.D.Disk.faults g.D.Crashing.picks g.met.D.Crashing.picks_images
    c.args.calls.now c.loop-at.calls c.loop-at.at c.args.disk.now c.loop-at.disk (omega (arith, c.loop-at-test.false, inv.1)) inv.1 inv.0
