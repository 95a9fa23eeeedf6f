use Rattle.outside.proofs.Images.{moments_of_write, moments_of_sync}
use Rattle.outside.proofs.durable.write_durably.Goals as goal

pub returns-in_err-write-clause-moments : goal.returns-in_err-write-clause-moments
returns-in_err-write-clause-moments g c =
    moments_of_write g.D.Disk.images g.D.Disk.moment g.D.Disk.left_since _ _ _ g.met.D.Disk.only_now _ _ c.write.ensures.images c.write.ensures.time

pub returns-in_err-sync-clause-moments : goal.returns-in_err-sync-clause-moments
returns-in_err-sync-clause-moments g c =
    let written = moments_of_write g.D.Disk.images g.D.Disk.moment g.D.Disk.left_since _ _ _ g.met.D.Disk.only_now _ _ c.write.ensures.images c.write.ensures.time in
    moments_of_sync g.D.Disk.images g.D.Disk.moment g.D.Disk.left_since _ _ _ _ _ _ written c.write.ensures.images c.sync.ensures.images c.sync.ensures.time

pub returns-clause-moments : goal.returns-clause-moments
returns-clause-moments g c =
    let written = moments_of_write g.D.Disk.images g.D.Disk.moment g.D.Disk.left_since _ _ _ g.met.D.Disk.only_now _ _ c.write.ensures.images c.write.ensures.time in
    moments_of_sync g.D.Disk.images g.D.Disk.moment g.D.Disk.left_since _ _ _ _ _ _ written c.write.ensures.images c.sync.ensures.images c.sync.ensures.time
