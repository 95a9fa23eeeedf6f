use Rattle.std.proofs.Common.{ap}
use Rattle.outside.specs.Disk.{Cut}
use Rattle.outside.proofs.Torn.{cut_same}
use Rattle.crashing.proofs.Refusals.{refused_others, refused_images}
use Rattle.crashing.proofs.armed.ArmedDisk.cut.Goals as goal

pub returns-then-is_spent-clause-others : goal.returns-then-is_spent-clause-others
returns-then-is_spent-clause-others g c = refused_others c.args.area c.refuse.result _ _ (ap g.D.Disk.reads_as c.refuse.ensures.disk)

pub returns-then-is_spent-clause-images : goal.returns-then-is_spent-clause-images
returns-then-is_spent-clause-images g c =
    refused_images g.D.Disk.images c.args.area (Cut c.args.len) (cut_same c.args.len) _ _ c.refuse.ensures.disk
