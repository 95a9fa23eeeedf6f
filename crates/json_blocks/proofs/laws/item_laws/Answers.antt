use Rattle.chain_defs.specs.Schema as schema
use Rattle.json_defs.specs.Blocks as form
use Rattle.json_blocks.proofs.ReadBack.{transaction-back, script-back, cellbase_witness-back}
use Rattle.json_blocks.proofs.ReadOnce.{transaction-once, script-once, cellbase_witness-once}
use Rattle.json_blocks.proofs.TextBack.{transaction-text-back, script-text-back, cellbase_witness-text-back}
use Rattle.json_blocks.proofs.TextUtf8.{transaction-is_utf8, script-is_utf8, cellbase_witness-is_utf8}
use Rattle.json_blocks.proofs.FromText.{has_texts}
use Rattle.json_blocks.proofs.laws.item_laws.Goals as goal

pub returns : goal.returns
returns c = record {
  transaction = has_texts form.transaction schema.transaction transaction-text-back transaction-is_utf8 transaction-back transaction-once;
  script = has_texts form.script schema.script script-text-back script-is_utf8 script-back script-once;
  cellbase_witness = has_texts form.cellbase_witness schema.cellbase_witness cellbase_witness-text-back cellbase_witness-is_utf8 cellbase_witness-back cellbase_witness-once;
}
