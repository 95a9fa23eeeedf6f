use Rattle.chain_defs.specs.Schema as schema
use Rattle.json_defs.specs.Blocks as form
use Rattle.json_blocks.specs.Reading.{transaction_at}
use Rattle.json_blocks.proofs.ExactObjects.{transaction-exact}
use Rattle.json_blocks.proofs.FromText.{found, only}
use Rattle.json_blocks.proofs.read.transaction_from_json.Goals as goal

pub returns : goal.returns
returns c = record {
  found = found form.transaction schema.transaction transaction_at transaction-exact c.args.text.now c.read_text.result c.read_text.ensures;
  only = only form.transaction schema.transaction transaction_at transaction-exact c.args.text.now c.read_text.result c.read_text.ensures;
}
