use Rattle.std.proofs.Common.{rules}
use Rattle.snapshots.specs.Reading.{AnswersNumber}
use Rattle.snapshots.proofs.Heads.{as-read}
use Rattle.snapshots.proofs.head.number.Goals as goal

pub returns-in-Ok-clause-number : goal.returns-in-Ok-clause-number
returns-in-Ok-clause-number g c =
    as-read (λ bytes. AnswersNumber c.args.area bytes _) c.args.area (g.D.Disk.reads_as c.args.disk.now) _ _ 5 (search rules) c.in-Ok.ensures.bytes c.number_in.ensures.number
