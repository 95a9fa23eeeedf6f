use Rattle.std.proofs.Common.{length, sym, ap, subst, refl, arith}
use Rattle.std.proofs.lemmas.List.{drop-drop}
use Rattle.log_file.specs.Reading.{ReaderValue, IsReading}
use Rattle.log_file.proofs.Pieces.{gone_over}
use Rattle.log_file.proofs.reading.Reader.skip.Goals as goal

pub returns-clause-reading : goal.returns-clause-reading
returns-clause-reading c = λ log reading.
    gone_over log _ _ c.args.count (omega (arith, c.requires, ap (λ (v : ReaderValue). length v.ahead) c.self.view_is)) (record { len = refl; at = refl })
    (sym (drop-drop c.args.count c.self.inside.from c.self.inside.bytes.items)) (subst (IsReading log) (sym c.self.view_is) reading)
