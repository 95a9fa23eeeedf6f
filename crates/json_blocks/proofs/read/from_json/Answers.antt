use Rattle.chain_defs.specs.Schema as schema
use Rattle.json_defs.specs.Blocks as form
use Rattle.json_blocks.specs.Reading.{block_at}
use Rattle.json_blocks.proofs.ExactObjects.{block-exact}
use Rattle.json_blocks.proofs.FromText.{found, only}
use Rattle.json_blocks.proofs.read.from_json.Goals as goal

pub returns : goal.returns
returns c = record {
  found = found form.block schema.block block_at block-exact c.args.text.now c.read_text.result c.read_text.ensures;
  only = only form.block schema.block block_at block-exact c.args.text.now c.read_text.result c.read_text.ensures;
}
