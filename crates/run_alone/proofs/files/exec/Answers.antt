use Rattle.std.proofs.Common.{ℕ, Vec, Global, ap, ◌∙◌}
use Rattle.report_defs.specs.declared.status.Status.TheVariants.{Done}
use Rattle.report_defs.specs.Text.{execution_line}
use Rattle.report_defs.specs.Report.{report_without_lines}
use Rattle.run_alone.proofs.files.exec.Goals as goal

pub returns : goal.returns
returns c = ap (λ bytes. report_without_lines bytes Done)
    (ap (λ (v : Vec ℕ Global). v.items) c.into_bytes.ensures.value ∙ c.in_ok-line.ensures ∙ ap execution_line c.in-Ok.ensures.came)
