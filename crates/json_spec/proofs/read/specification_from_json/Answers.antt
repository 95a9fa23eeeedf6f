use Rattle.json_blocks.proofs.FromText.{found, only}
use Rattle.json_spec.specs.Form as form
use Rattle.json_spec.specs.Bytes.{specification}
use Rattle.json_spec.specs.Reading.{specification_at}
use Rattle.json_spec.proofs.Objects.{specification-exact}
use Rattle.json_spec.proofs.read.specification_from_json.Goals as goal

pub returns : goal.returns
returns c = record {
  found = found form.specification specification specification_at specification-exact c.args.text.now c.read_text.result c.read_text.ensures;
  only = only form.specification specification specification_at specification-exact c.args.text.now c.read_text.result c.read_text.ensures;
}
