use Rattle.std.proofs.Common.{inl, inr, [], refl, sym, ◌∙◌, subst}
use Rattle.outside.proofs.Endings.{no_fault}
use Rattle.outside.proofs.Streams.{takes_none}
use Rattle.report_defs.specs.declared.status.Status.TheVariants.{NoMemory}
use Rattle.report_defs.specs.Text.{line}
use Rattle.run_text.specs.Output.{IsWritten}
use Rattle.run_text.proofs.Exits.{same_stop}
use Rattle.run_text.proofs.Faults.{IsMemory}
use Rattle.run_import.proofs.ImportLemmas.{cut_before_line, line_written}
use Rattle.run_import.proofs.importing.write_line.Goals as goal

pub returns-in-Ok-clause-written : goal.returns-in-Ok-clause-written
returns-in-Ok-clause-written g c =
    let written = c.write_text.ensures.written in
    let text = c.as_bytes.ensures.value ∙ c.in-Ok.ensures in (
      written.0,
      written.1,
      line_written (line c.args.verdict.now c.args.balance) c.write_text.result written.0 c.write_text.ensures.stop
          (subst (λ bytes. IsWritten bytes c.write_text.result written.0) text written.2),
    )

pub returns-in-Err-clause-written : goal.returns-in-Err-clause-written
returns-in-Err-clause-written g c = ([], takes_none (g.K.Sink.taken c.args.out.now), cut_before_line c.args.verdict.now c.args.balance NoMemory (inr (inl refl)))

pub returns-in-Ok-clause-status : goal.returns-in-Ok-clause-status
returns-in-Ok-clause-status g c = λ status e. inl (c.write_text.ensures.stop status e)

pub returns-in-Ok-clause-faults : goal.returns-in-Ok-clause-faults
returns-in-Ok-clause-faults g c = c.write_text.ensures.faults

pub returns-in-Err-clause-status : goal.returns-in-Err-clause-status
returns-in-Err-clause-status g c = λ status e. inr (inl (sym (same_stop _ _ e)))

pub returns-in-Err-clause-faults : goal.returns-in-Err-clause-faults
returns-in-Err-clause-faults g c = no_fault _ _ refl (λ e. subst IsMemory (same_stop _ _ e) tt)
