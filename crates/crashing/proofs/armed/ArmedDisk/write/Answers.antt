use Rattle.std.proofs.Common.{ap, length}
use Rattle.outside.specs.Disk.{Torn}
use Rattle.outside.proofs.Torn.{torn_same}
use Rattle.crashing.proofs.Refusals.{refused_others, refused_images}
use Rattle.crashing.proofs.armed.ArmedDisk.write.Goals as goal

pub returns-then-is_spent-clause-others : goal.returns-then-is_spent-clause-others
returns-then-is_spent-clause-others g c = refused_others c.args.area c.refuse.result _ _ (ap g.D.Disk.reads_as c.refuse.ensures.disk)

pub returns-then-is_spent-clause-images : goal.returns-then-is_spent-clause-images
returns-then-is_spent-clause-images g c =
    let size = length c.args.piece.now in
    refused_images g.D.Disk.images c.args.area (Torn c.args.at size) (torn_same c.args.at size) _ _ c.refuse.ensures.disk
