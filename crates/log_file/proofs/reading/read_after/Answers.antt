use Rattle.log_file.proofs.Pieces.{told_front}
use Rattle.log_file.proofs.reading.read_after.Goals as goal

pub returns-clause-bytes : goal.returns-clause-bytes
returns-clause-bytes g c =
    told_front (g.D.Disk.reads_as c.args.disk.now) c.args.into.now c.copy_from_slice.new.self c.args.prefix.now c.read.new.into c.args.at c.in_ok-n.n
    c.copy_from_slice.ensures.after c.requires.within c.read.auto.into c.in_ok-n.ensures.fits c.in_ok-n.ensures.bytes
