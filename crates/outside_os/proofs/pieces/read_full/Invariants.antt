use Rattle.std.proofs.Common.{◌-◌, length}
use Rattle.outside_os.proofs.Transfers.{ReadSoFar}
use Rattle.outside_os.proofs.pieces.read_full.Given as goal

abbrev pub invariant-loop-given : goal.invariant-loop-given
invariant-loop-given g l =
    ReadSoFar (g.F.StoredFile.held l.fn.file) (g.F.StoredFile.held l.file) (g.F.StoredFile.failures l.fn.file) (g.F.StoredFile.failures l.file) l.at l.given l.into

abbrev pub decreases-loop-given : goal.decreases-loop-given
decreases-loop-given g l = length l.initial.into - l.given
