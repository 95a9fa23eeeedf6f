use Rattle.std.proofs.Common.{inl, inr, ◌∙◌, rules}
use Rattle.outside.proofs.Moments.{goes_on, leaves_also, leaves_then}
use Rattle.snapshots.proofs.Gates.{others-as, any-here, any-after, as-it-was, while-closed}
use Rattle.snapshots.proofs.closing.close.Goals as goal
use Rattle.snapshots.proofs.closing.close.Goals.{then-n-eq0-via-then-n-eq0, then-n-eq0-via-else-n-eq0+then-first-eq1}

pub returns-in-Err-clause-moments : goal.returns-in-Err-clause-moments
returns-in-Err-clause-moments g c = λ durable.
    leaves_also g.D.Disk.moment g.D.Disk.left_since _ _ _ _
    (g.met.D.Disk.content_rests c.args.disk.now c.read.new.self c.read.ensures.content).moments
    (as-it-was c.args.area (g.D.Disk.images c.args.disk.now))

pub returns-in-Err-clause-others : goal.returns-in-Err-clause-others
returns-in-Err-clause-others g c = others-as c.args.area (g.D.Disk.reads_as c.args.disk.now) (g.D.Disk.reads_as c.read.new.self) c.read.ensures.same

pub returns-then-n-eq0-clause-moments : goal.returns-then-n-eq0-clause-moments
returns-then-n-eq0-clause-moments g c = λ durable.
    leaves_then g.D.Disk.moment g.D.Disk.left_since _ _ _ _
    (leaves_also g.D.Disk.moment g.D.Disk.left_since _ _ _ _
    (g.met.D.Disk.content_rests c.args.disk.now c.read.new.self c.read.ensures.content).moments
    (as-it-was c.args.area (g.D.Disk.images c.args.disk.now)))
    (leaves_also g.D.Disk.moment g.D.Disk.left_since _ _ _ _ c.write_durably.ensures.moments
    (while-closed c.args.area (g.D.Disk.reads_as c.args.disk.now) (g.D.Disk.images c.args.disk.now) (g.D.Disk.images c.read.new.self) c.in-Ok.n c.read.new.into
    (g.met.D.Disk.images_told c.args.disk.now) c.read.ensures.images durable (search rules) c.in-Ok.ensures.bytes
    (elim c.then-n-eq0.branch [
      | then-n-eq0-via-then-n-eq0 w ↦ inl (search rules)
      | then-n-eq0-via-else-n-eq0+then-first-eq1 w ↦ inr (search rules)
    ])))

pub returns-clause-moments : goal.returns-clause-moments
returns-clause-moments g c = λ durable.
    goes_on g.D.Disk.moment g.D.Disk.left_since _ _ _ _ _
    (leaves_also g.D.Disk.moment g.D.Disk.left_since _ _ _ _
    (g.met.D.Disk.content_rests c.args.disk.now c.read.new.self c.read.ensures.content).moments
    (as-it-was c.args.area (g.D.Disk.images c.args.disk.now)))
    c.sync.ensures.time
    (λ image left. as-it-was c.args.area (g.D.Disk.images c.args.disk.now) image ((c.read.ensures.images image).0 (c.sync.ensures.images image left)))

pub returns-clause-others : goal.returns-clause-others
returns-clause-others g c =
    others-as c.args.area (g.D.Disk.reads_as c.args.disk.now) (g.D.Disk.reads_as c.sync.new.self) (c.sync.ensures.same ∙ c.read.ensures.same)

pub returns-in-Err-clause-beside : goal.returns-in-Err-clause-beside
returns-in-Err-clause-beside g c =
    leaves_also g.D.Disk.moment g.D.Disk.left_since _ _ _ _
    (g.met.D.Disk.content_rests c.args.disk.now c.read.new.self c.read.ensures.content).moments
    (any-here c.args.area (g.D.Disk.images c.args.disk.now))

pub returns-then-n-eq0-clause-beside : goal.returns-then-n-eq0-clause-beside
returns-then-n-eq0-clause-beside g c =
    leaves_then g.D.Disk.moment g.D.Disk.left_since _ _ _ _
    (leaves_also g.D.Disk.moment g.D.Disk.left_since _ _ _ _
    (g.met.D.Disk.content_rests c.args.disk.now c.read.new.self c.read.ensures.content).moments
    (any-here c.args.area (g.D.Disk.images c.args.disk.now)))
    (leaves_also g.D.Disk.moment g.D.Disk.left_since _ _ _ _ c.write_durably.ensures.moments
    (any-after c.args.area _ _ (g.D.Disk.images c.args.disk.now) (g.D.Disk.images c.read.new.self)
    (λ image left. any-here c.args.area (g.D.Disk.images c.args.disk.now) image ((c.read.ensures.images image).0 left))))

pub returns-clause-beside : goal.returns-clause-beside
returns-clause-beside g c =
    goes_on g.D.Disk.moment g.D.Disk.left_since _ _ _ _ _
    (leaves_also g.D.Disk.moment g.D.Disk.left_since _ _ _ _
    (g.met.D.Disk.content_rests c.args.disk.now c.read.new.self c.read.ensures.content).moments
    (any-here c.args.area (g.D.Disk.images c.args.disk.now)))
    c.sync.ensures.time
    (λ image left. any-here c.args.area (g.D.Disk.images c.args.disk.now) image ((c.read.ensures.images image).0 (c.sync.ensures.images image left)))
