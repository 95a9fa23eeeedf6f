use Rattle.json_spec.proofs.Objects.{specification-texts}
use Rattle.json_spec.proofs.BytesLaw.{holds-its-fields}
use Rattle.json_spec.proofs.laws.specification_laws.Goals as goal

pub returns : goal.returns
returns c = record { texts = specification-texts; bytes = holds-its-fields }
