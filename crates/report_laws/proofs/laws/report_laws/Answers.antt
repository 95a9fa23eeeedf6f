use Rattle.report_laws.proofs.One.{one-report}
use Rattle.report_laws.proofs.laws.report_laws.Goals as goal

pub returns : goal.returns
returns c = record {
  one_report = one-report c.text_laws.ensures.one_code c.text_laws.ensures.one_bad_line c.text_laws.ensures.none_bad c.reading_laws.ensures.one_block;
}
