use Rattle.snapshots.specs.Writing.{HoldsBody}
use Rattle.snapshots.proofs.Taken.{beside-then, moments-first, moments-then}
use Rattle.snapshots.proofs.writing.renew.Goals as goal

pub returns-in-Err-clause-moments : goal.returns-in-Err-clause-moments
returns-in-Err-clause-moments g c = λ durable.
    moments-first g.D.Disk.reads_as g.D.Disk.images g.D.Disk.moment g.D.Disk.left_since g.met.D.Disk.counts_now g.met.D.Disk.images_told
    c.args.disk.now c.close.new.disk c.args.area (HoldsBody c.args.body.now) (c.close.ensures.moments durable)

pub returns-in-Ok-put-clause-moments : goal.returns-in-Ok-put-clause-moments
returns-in-Ok-put-clause-moments g c = λ durable.
    moments-then g.D.Disk.reads_as g.D.Disk.images g.D.Disk.moment g.D.Disk.left_since g.met.D.Disk.counts_now g.met.D.Disk.images_told
    c.args.disk.now c.close.new.disk c.put.new.disk c.args.area (HoldsBody c.args.body.now) (c.close.ensures.moments durable)
    (λ some. c.put.ensures.moments (c.in-Ok.ensures.shut some)) c.put.ensures.beside

pub returns-in-Err-put-clause-moments : goal.returns-in-Err-put-clause-moments
returns-in-Err-put-clause-moments g c = λ durable.
    moments-then g.D.Disk.reads_as g.D.Disk.images g.D.Disk.moment g.D.Disk.left_since g.met.D.Disk.counts_now g.met.D.Disk.images_told
    c.args.disk.now c.close.new.disk c.put.new.disk c.args.area (HoldsBody c.args.body.now) (c.close.ensures.moments durable)
    (λ some. c.put.ensures.moments (c.in-Ok.ensures.shut some)) c.put.ensures.beside

pub returns-in-Ok-put-clause-beside : goal.returns-in-Ok-put-clause-beside
returns-in-Ok-put-clause-beside g c =
    beside-then g.D.Disk.reads_as g.D.Disk.images g.D.Disk.moment g.D.Disk.left_since g.met.D.Disk.counts_now g.met.D.Disk.images_told
    c.args.disk.now c.close.new.disk c.put.new.disk c.args.area c.close.ensures.beside c.put.ensures.beside

pub returns-in-Err-put-clause-beside : goal.returns-in-Err-put-clause-beside
returns-in-Err-put-clause-beside g c =
    beside-then g.D.Disk.reads_as g.D.Disk.images g.D.Disk.moment g.D.Disk.left_since g.met.D.Disk.counts_now g.met.D.Disk.images_told
    c.args.disk.now c.close.new.disk c.put.new.disk c.args.area c.close.ensures.beside c.put.ensures.beside
