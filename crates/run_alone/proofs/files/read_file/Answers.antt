use Rattle.std.proofs.Common.{◌≡◌, length, take, refl, sym, ap, arith, length-take-le}
use Rattle.outside.proofs.Endings.{no_fault}
use Rattle.run_text.proofs.Faults.{failed_counts}
use Rattle.run_text.proofs.Reading.{written_whole}
use Rattle.run_alone.proofs.files.read_file.Goals as goal

pub returns-in-Err-read_full-clause-faults : goal.returns-in-Err-read_full-clause-faults
returns-in-Err-read_full-clause-faults g c = failed_counts _ _ c.in-Err-read_full.field-0 c.in-Err-read_full.ensures.cause refl

pub returns-clause-faults : goal.returns-clause-faults
returns-clause-faults g c = no_fault _ _ (c.in-Ok-read_full.ensures.cause.unchanged refl) (λ e. cc)

pub returns-clause-file : goal.returns-clause-file
returns-clause-file g c =
    let size : length c.read_full.new.into ≡ c.in-Ok.file.len = omega (arith, c.read_full.auto.into, c.deref_mut.ensures.len) in
    let same : c.truncate.new.self.items ≡ take c.in-Ok-read_full.n c.read_full.new.into =
    rw (written_whole c.in-Ok.file.len c.read_full.new.into c.in-Ok.file.items size) at c.truncate.ensures.items in (
      take c.in-Ok-read_full.n c.read_full.new.into,
      c.in-Ok-read_full.ensures.given,
      record {
        same = sym same;
        most = omega (arith, size, ap length same, length-take-le c.in-Ok-read_full.n c.read_full.new.into c.in-Ok-read_full.ensures.fits, c.in-Ok.ensures.len, c.in-Ok-read_full.ensures.fits);
        to_end = λ fits. c.in-Ok-read_full.ensures.end (omega (arith, fits, size, ap length same, length-take-le c.in-Ok-read_full.n c.read_full.new.into c.in-Ok-read_full.ensures.fits, c.in-Ok.ensures.len));
      },
    )

pub returns-in-Err-read_full-clause-file : goal.returns-in-Err-read_full-clause-file
returns-in-Err-read_full-clause-file g c =
    let size : length c.read_full.new.into ≡ c.in-Ok.file.len = omega (arith, c.read_full.auto.into, c.deref_mut.ensures.len) in
    let before = c.in-Err-read_full.ensures.given_before in (
      before.0,
      before.2,
      record {
        stop = tt;
        most = omega (arith, size, before.1, c.in-Ok.ensures.len);
      },
    )
