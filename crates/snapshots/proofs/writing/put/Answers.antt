use Rattle.outside.proofs.Moments.{leaves_also, leaves_then}
use Rattle.snapshots.proofs.Gates.{any-here, any-after, while-written, while-opened}
use Rattle.snapshots.proofs.writing.put.Goals as goal

pub returns-in-Err-clause-moments : goal.returns-in-Err-clause-moments
returns-in-Err-clause-moments g c = λ shut.
    leaves_also g.D.Disk.moment g.D.Disk.left_since _ _ _ _ c.write_durably.ensures.moments (while-written c.args.area c.args.body.now _ _ shut)

pub returns-in-Err-write_durably-clause-moments : goal.returns-in-Err-write_durably-clause-moments
returns-in-Err-write_durably-clause-moments g c = λ shut.
    leaves_then g.D.Disk.moment g.D.Disk.left_since _ _ _ _
    (leaves_also g.D.Disk.moment g.D.Disk.left_since _ _ _ _ c.write_durably.ensures.moments (while-written c.args.area c.args.body.now _ _ shut))
    (leaves_also g.D.Disk.moment g.D.Disk.left_since _ _ _ _ c.write_durably-2.ensures.moments
    (while-opened c.args.area c.args.body.now _ _ _ _ shut c.in-Ok.ensures.written c.in-Ok.ensures.durable c.write_durably.ensures.images))

pub returns-in-Ok-write_durably-clause-moments : goal.returns-in-Ok-write_durably-clause-moments
returns-in-Ok-write_durably-clause-moments g c = λ shut.
    leaves_then g.D.Disk.moment g.D.Disk.left_since _ _ _ _
    (leaves_also g.D.Disk.moment g.D.Disk.left_since _ _ _ _ c.write_durably.ensures.moments (while-written c.args.area c.args.body.now _ _ shut))
    (leaves_also g.D.Disk.moment g.D.Disk.left_since _ _ _ _ c.write_durably-2.ensures.moments
    (while-opened c.args.area c.args.body.now _ _ _ _ shut c.in-Ok.ensures.written c.in-Ok.ensures.durable c.write_durably.ensures.images))

pub returns-in-Err-clause-beside : goal.returns-in-Err-clause-beside
returns-in-Err-clause-beside g c =
    leaves_also g.D.Disk.moment g.D.Disk.left_since _ _ _ _ c.write_durably.ensures.moments
    (any-after c.args.area _ _ (g.D.Disk.images c.args.disk.now) (g.D.Disk.images c.args.disk.now) (any-here c.args.area (g.D.Disk.images c.args.disk.now)))

pub returns-in-Err-write_durably-clause-beside : goal.returns-in-Err-write_durably-clause-beside
returns-in-Err-write_durably-clause-beside g c =
    leaves_then g.D.Disk.moment g.D.Disk.left_since _ _ _ _
    (leaves_also g.D.Disk.moment g.D.Disk.left_since _ _ _ _ c.write_durably.ensures.moments
    (any-after c.args.area _ _ (g.D.Disk.images c.args.disk.now) (g.D.Disk.images c.args.disk.now) (any-here c.args.area (g.D.Disk.images c.args.disk.now))))
    (leaves_also g.D.Disk.moment g.D.Disk.left_since _ _ _ _ c.write_durably-2.ensures.moments
    (any-after c.args.area _ _ (g.D.Disk.images c.args.disk.now) (g.D.Disk.images c.write_durably.new.disk)
    (λ image left. any-after c.args.area _ _ (g.D.Disk.images c.args.disk.now) (g.D.Disk.images c.args.disk.now) (any-here c.args.area (g.D.Disk.images c.args.disk.now))
    image (c.write_durably.ensures.images image left))))

pub returns-in-Ok-write_durably-clause-beside : goal.returns-in-Ok-write_durably-clause-beside
returns-in-Ok-write_durably-clause-beside g c =
    leaves_then g.D.Disk.moment g.D.Disk.left_since _ _ _ _
    (leaves_also g.D.Disk.moment g.D.Disk.left_since _ _ _ _ c.write_durably.ensures.moments
    (any-after c.args.area _ _ (g.D.Disk.images c.args.disk.now) (g.D.Disk.images c.args.disk.now) (any-here c.args.area (g.D.Disk.images c.args.disk.now))))
    (leaves_also g.D.Disk.moment g.D.Disk.left_since _ _ _ _ c.write_durably-2.ensures.moments
    (any-after c.args.area _ _ (g.D.Disk.images c.args.disk.now) (g.D.Disk.images c.write_durably.new.disk)
    (λ image left. any-after c.args.area _ _ (g.D.Disk.images c.args.disk.now) (g.D.Disk.images c.args.disk.now) (any-here c.args.area (g.D.Disk.images c.args.disk.now))
    image (c.write_durably.ensures.images image left))))
