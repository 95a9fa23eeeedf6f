use Rattle.outside_vectors.proofs.FakeFile.{front_written}
use Rattle.outside_vectors.proofs.fake_file.FakeFileStoredFile.write_at.Goals as goal

pub returns-in-Some-clause-torn : goal.returns-in-Some-clause-torn
returns-in-Some-clause-torn c =
    front_written c.args.at c.taken_of-n.result c.args.piece.now _ _ _ c.taken_of-n.ensures c.in-Ok-write_over.ensures.written
