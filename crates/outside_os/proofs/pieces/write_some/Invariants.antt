use Rattle.outside_os.proofs.Transfers.{IsWritten}
use Rattle.outside_os.proofs.pieces.write_some.Given as goal

abbrev pub invariant-loop : goal.invariant-loop
invariant-loop g l =
    IsWritten (g.F.StoredFile.held l.fn.file) (g.F.StoredFile.held l.file) (g.F.StoredFile.failures l.fn.file) (g.F.StoredFile.failures l.file) l.at l.answer l.piece
