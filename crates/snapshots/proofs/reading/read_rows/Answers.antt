use Rattle.std.proofs.Common.{rules}
use Rattle.snapshots.proofs.Whole.{not-fewer}
use Rattle.snapshots.proofs.reading.read_rows.Goals as goal

pub returns-then-n-size-clause-short : goal.returns-then-n-size-clause-short
returns-then-n-size-clause-short g c =
    not-fewer _ c.args.area (g.D.Disk.reads_as c.args.disk.now) _ c.in-Ok.len c.in-Some.size _ _ c.in-Ok.ensures.same c.in-Ok.ensures.length
    (search rules) (search rules) (search rules) c.in-Ok-read.ensures.bytes
