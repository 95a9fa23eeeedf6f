use Rattle.std.proofs.Common.{refl}
use Rattle.log_file.proofs.Exits.{on_each, not_called, no_fault_counts, memory_not_fault, fault_counts, answer_counts}
use Rattle.log_file.proofs.reading.read_piece.Goals as goal

pub returns-in-Err-clause-fits : goal.returns-in-Err-clause-fits
returns-in-Err-clause-fits g c = tt

pub returns-in-Err-clause-bytes : goal.returns-in-Err-clause-bytes
returns-in-Err-clause-bytes g c = on_each (g.D.Disk.reads_as c.args.disk.now) _ (λ _ _. tt)

pub returns-in-Err-read_after-clause-fits : goal.returns-in-Err-read_after-clause-fits
returns-in-Err-read_after-clause-fits g c = tt

pub returns-in-Err-read_after-clause-bytes : goal.returns-in-Err-read_after-clause-bytes
returns-in-Err-read_after-clause-bytes g c = on_each (g.D.Disk.reads_as c.args.disk.now) _ (λ _ _. tt)

pub returns-in-Err-clause-reads : goal.returns-in-Err-clause-reads
returns-in-Err-clause-reads g c = tt

pub returns-in-Err-clause-cause : goal.returns-in-Err-clause-cause
returns-in-Err-clause-cause g c = no_fault_counts _ memory_not_fault

pub returns-in-Err-read_after-clause-as_before : goal.returns-in-Err-read_after-clause-as_before
returns-in-Err-read_after-clause-as_before g c = c.in-Err-read_after.ensures.as_before

pub returns-in-Err-read_after-clause-reads : goal.returns-in-Err-read_after-clause-reads
returns-in-Err-read_after-clause-reads g c = tt

pub returns-in-Err-read_after-clause-cause : goal.returns-in-Err-read_after-clause-cause
returns-in-Err-read_after-clause-cause g c = fault_counts _ _ _ _ c.in-Err-read_after.ensures.cause

pub returns-in-Ok-read_after-clause-as_before : goal.returns-in-Ok-read_after-clause-as_before
returns-in-Ok-read_after-clause-as_before g c = c.in-Ok-read_after.ensures.as_before

pub returns-in-Ok-read_after-clause-reads : goal.returns-in-Ok-read_after-clause-reads
returns-in-Ok-read_after-clause-reads g c = tt

pub returns-in-Ok-read_after-clause-cause : goal.returns-in-Ok-read_after-clause-cause
returns-in-Ok-read_after-clause-cause g c = answer_counts _ _ _ _ (c.in-Ok-read_after.ensures.cause.unchanged refl)

pub returns-in-Err-clause-as_before : goal.returns-in-Err-clause-as_before
returns-in-Err-clause-as_before g c = not_called g.D.Disk.reads_as g.D.Disk.images g.D.Disk.moment g.D.Disk.left_since g.met.D.Disk.only_now c.args.disk.now
