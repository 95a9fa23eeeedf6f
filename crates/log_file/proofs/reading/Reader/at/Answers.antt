use Rattle.std.proofs.Common.{length, ap, arith}
use Rattle.log_file.specs.Reading.{ReaderValue}
use Rattle.log_file.proofs.reading.Reader.at.Goals as goal

pub returns-clause-room : goal.returns-clause-room
returns-clause-room c = omega (arith, ap (λ (v : ReaderValue). length v.ahead) c.self.view_is, c.self.invariant.1, c.self.invariant.2)
