use Rattle.report_laws.proofs.Assembled.{what-is-assembled-joins}
use Rattle.report_laws.proofs.laws.assembly_laws.Goals as goal

pub returns : goal.returns
returns c = record {
  what_is_assembled_joins = what-is-assembled-joins c.store_laws.ensures.stands_for_what_joined c.joining_laws.ensures.breaks_few c.canonical_laws.ensures.unbroken_is_joined
      c.canonical_laws.ensures.kept_is_in_range;
}
