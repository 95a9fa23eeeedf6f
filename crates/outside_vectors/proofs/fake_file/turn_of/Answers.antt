use Rattle.outside_vectors.proofs.FakeFile.{fails_once}
use Rattle.outside_vectors.proofs.fake_file.turn_of.Goals as goal

pub returns-in-Ok-Errs : goal.returns-in-Ok-Errs
returns-in-Ok-Errs c = fails_once _ _ _ c.fail.ensures

pub returns-in-Err : goal.returns-in-Err
returns-in-Err c = fails_once _ _ _ c.fail-in-Err.ensures
