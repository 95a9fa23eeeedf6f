use Rattle.chain_defs.specs.Schema as schema
use Rattle.json_defs.specs.Blocks as form
use Rattle.json_blocks.specs.Reading.{cellbase_witness_at}
use Rattle.json_blocks.proofs.ExactObjects.{cellbase_witness-exact}
use Rattle.json_blocks.proofs.FromText.{found, only}
use Rattle.json_blocks.proofs.read.cellbase_witness_from_json.Goals as goal

pub returns : goal.returns
returns c = record {
  found = found form.cellbase_witness schema.cellbase_witness cellbase_witness_at cellbase_witness-exact c.args.text.now c.read_text.result c.read_text.ensures;
  only = only form.cellbase_witness schema.cellbase_witness cellbase_witness_at cellbase_witness-exact c.args.text.now c.read_text.result c.read_text.ensures;
}
