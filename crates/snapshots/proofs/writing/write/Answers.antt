use Rattle.std.proofs.Common.{refl, sym, subst}
use Rattle.std.specs.Prelude.{IfSome}
use Rattle.outside.specs.declared.disk.Area.{Area}
use Rattle.outside.specs.Disk.{IsDurable}
use Rattle.cell_state.specs.State.{rows}
use Rattle.disk_defs.specs.Snapshot.{area_of}
use Rattle.outside.proofs.Moments.{started, leaves_also}
use Rattle.snapshots.specs.Writing.{HoldsNew}
use Rattle.snapshots.proofs.Gates.{others-as, any-here}
use Rattle.snapshots.proofs.Taken.{still-taken, new-taken}
use Rattle.snapshots.proofs.writing.write.Goals as goal

pub returns-in-Err-clause-moments : goal.returns-in-Err-clause-moments
returns-in-Err-clause-moments g c = λ durable. started g.D.Disk.moment g.D.Disk.left_since _ _ (λ image left.
    still-taken (area_of c.args.number) (HoldsNew c.args.number c.args.tip c.args.hash.now (rows c.args.state.now)) (g.D.Disk.images c.args.disk.now) image
    (g.met.D.Disk.only_now c.args.disk.now image left))

pub returns-in-Err-clause-others : goal.returns-in-Err-clause-others
returns-in-Err-clause-others g c = others-as (area_of c.args.number) (g.D.Disk.reads_as c.args.disk.now) (g.D.Disk.reads_as c.args.disk.now) refl

pub returns-in-Err-clause-beside : goal.returns-in-Err-clause-beside
returns-in-Err-clause-beside g c = started g.D.Disk.moment g.D.Disk.left_since _ _ (λ image left.
    any-here (area_of c.args.number) (g.D.Disk.images c.args.disk.now) image (g.met.D.Disk.only_now c.args.disk.now image left))

pub returns-in-Ok-renew-clause-moments : goal.returns-in-Ok-renew-clause-moments
returns-in-Ok-renew-clause-moments g c = λ durable.
    leaves_also g.D.Disk.moment g.D.Disk.left_since _ _ _ _
    (c.renew.ensures.moments
    (subst (λ (a : Area). IfSome (g.D.Disk.reads_as c.args.disk.now) (IsDurable a (g.D.Disk.images c.args.disk.now))) (sym c.area_of.ensures) durable))
    (new-taken c.area_of.result (area_of c.args.number) c.args.number c.args.tip c.args.hash.now (rows c.args.state.now) c.in-Ok.body.items c.deref.result.now
    c.area_of.ensures c.deref.ensures.value c.in-Ok.ensures.body (g.D.Disk.images c.args.disk.now))

pub returns-clause-moments : goal.returns-clause-moments
returns-clause-moments g c = λ durable.
    leaves_also g.D.Disk.moment g.D.Disk.left_since _ _ _ _
    (c.renew.ensures.moments
    (subst (λ (a : Area). IfSome (g.D.Disk.reads_as c.args.disk.now) (IsDurable a (g.D.Disk.images c.args.disk.now))) (sym c.area_of.ensures) durable))
    (new-taken c.area_of.result (area_of c.args.number) c.args.number c.args.tip c.args.hash.now (rows c.args.state.now) c.in-Ok.body.items c.deref.result.now
    c.area_of.ensures c.deref.ensures.value c.in-Ok.ensures.body (g.D.Disk.images c.args.disk.now))
