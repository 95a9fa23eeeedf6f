use Rattle.std.proofs.Common.{length}
use Rattle.outside.proofs.Moments.{started, goes_on, leaves_also, leaves_then}
use Rattle.log_file.proofs.Creating.{others_then, others_cut, others_written, up_to_there, up_to_cut, up_to_torn, replaced}
use Rattle.log_file.proofs.creation.replace_log.Goals as goal

pub returns-in-Err-clause-moments : goal.returns-in-Err-clause-moments
returns-in-Err-clause-moments g c = goes_on g.D.Disk.moment g.D.Disk.left_since _ _ _ _ _
    (started g.D.Disk.moment g.D.Disk.left_since _ _ (λ image left. up_to_there (length c.args.bytes.now) _ image (g.met.D.Disk.only_now c.args.disk.now image left)))
    c.cut.ensures.time (up_to_cut (length c.args.bytes.now) _ _ c.cut.ensures.images)

pub returns-in-Err-write_durably-clause-moments : goal.returns-in-Err-write_durably-clause-moments
returns-in-Err-write_durably-clause-moments g c = leaves_then g.D.Disk.moment g.D.Disk.left_since _ _ _ _
    (goes_on g.D.Disk.moment g.D.Disk.left_since _ _ _ _ _
    (started g.D.Disk.moment g.D.Disk.left_since _ _ (λ image left. up_to_there (length c.args.bytes.now) _ image (g.met.D.Disk.only_now c.args.disk.now image left)))
    c.cut.ensures.time (up_to_cut (length c.args.bytes.now) _ _ c.cut.ensures.images))
    (leaves_also g.D.Disk.moment g.D.Disk.left_since _ _ _ _ c.write_durably.ensures.moments (up_to_torn (length c.args.bytes.now) _ _ c.cut.ensures.images))

pub returns-in-Ok-write_durably-clause-moments : goal.returns-in-Ok-write_durably-clause-moments
returns-in-Ok-write_durably-clause-moments g c = leaves_then g.D.Disk.moment g.D.Disk.left_since _ _ _ _
    (goes_on g.D.Disk.moment g.D.Disk.left_since _ _ _ _ _
    (started g.D.Disk.moment g.D.Disk.left_since _ _ (λ image left. up_to_there (length c.args.bytes.now) _ image (g.met.D.Disk.only_now c.args.disk.now image left)))
    c.cut.ensures.time (up_to_cut (length c.args.bytes.now) _ _ c.cut.ensures.images))
    (leaves_also g.D.Disk.moment g.D.Disk.left_since _ _ _ _ c.write_durably.ensures.moments (up_to_torn (length c.args.bytes.now) _ _ c.cut.ensures.images))

pub returns-in-Ok-write_durably-clause-written : goal.returns-in-Ok-write_durably-clause-written
returns-in-Ok-write_durably-clause-written g c = replaced c.args.bytes.now _ _ _ c.in-Ok.ensures.cut c.in-Ok-write_durably.ensures.written

pub returns-in-Ok-write_durably-clause-others : goal.returns-in-Ok-write_durably-clause-others
returns-in-Ok-write_durably-clause-others g c =
    others_then _ _ _ (others_cut _ _ c.in-Ok.ensures.cut) (others_written 0 c.args.bytes.now _ _ c.in-Ok-write_durably.ensures.written)

pub returns-in-Err-write_durably-clause-others : goal.returns-in-Err-write_durably-clause-others
returns-in-Err-write_durably-clause-others g c = others_then _ _ _ (others_cut _ _ c.in-Ok.ensures.cut) c.in-Err-write_durably.ensures.others
