use Rattle.std.proofs.Common.{◌-◌, ◌^◌}
use Rattle.outside_os.proofs.Transfers.{IsRead}
use Rattle.outside_os.proofs.pieces.read_some.Given as goal

abbrev pub invariant-loop : goal.invariant-loop
invariant-loop g l =
    IsRead (g.F.StoredFile.held l.fn.file) (g.F.StoredFile.held l.file) (g.F.StoredFile.failures l.fn.file) (g.F.StoredFile.failures l.file) l.at (2 ^ 64 - 1) l.answer l.into
