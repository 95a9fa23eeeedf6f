use Rattle.std.proofs.Common.{rules}
use Rattle.snapshots.specs.Reading.{AnswersHead}
use Rattle.snapshots.proofs.Heads.{as-read}
use Rattle.snapshots.proofs.head.read_head.Goals as goal

pub returns-in-Ok-clause-head : goal.returns-in-Ok-clause-head
returns-in-Ok-clause-head g c =
    as-read (λ bytes. AnswersHead c.args.area bytes _) c.args.area (g.D.Disk.reads_as c.args.disk.now) _ _ 49 (search rules) c.in-Ok.ensures.bytes c.head_in.ensures.head
