use Rattle.std.proofs.Common.{◌≤◌, length}
use Rattle.std.specs.Prelude.{IfOk}
use Rattle.std.specs.Io.KnownBytes.{ReadConsumes}
use Rattle.outside_os.proofs.streams.read_some.Given as goal

abbrev pub invariant-loop : goal.invariant-loop
invariant-loop g l =
    (IfOk l.answer (λ n. n ≤ length l.into))
    × (ReadConsumes (g.B.Read.remaining l.fn.reader) (g.B.Read.remaining l.reader) l.answer l.into)
