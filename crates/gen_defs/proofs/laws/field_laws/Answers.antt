use Rattle.gen_defs.proofs.FieldLemmas.{fields-are-next}
use Rattle.gen_defs.proofs.laws.field_laws.Goals as goal

pub returns : goal.returns
returns c = fields-are-next
