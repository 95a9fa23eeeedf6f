use Rattle.std.proofs.Common.{◌-◌, length}
use Rattle.outside_os.proofs.Transfers.{WrittenSoFar}
use Rattle.outside_os.proofs.pieces.write_all.Given as goal

abbrev pub invariant-loop-done : goal.invariant-loop-done
invariant-loop-done g l =
    WrittenSoFar (g.F.StoredFile.held l.fn.file) (g.F.StoredFile.held l.file) (g.F.StoredFile.failures l.fn.file) (g.F.StoredFile.failures l.file) l.at l.done l.piece

abbrev pub decreases-loop-done : goal.decreases-loop-done
decreases-loop-done g l = length l.piece - l.done
