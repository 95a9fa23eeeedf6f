use Rattle.chain_defs.specs.Schema as schema
use Rattle.json_defs.specs.Blocks as form
use Rattle.json_blocks.proofs.ReadBack.{block-back}
use Rattle.json_blocks.proofs.ReadOnce.{block-once}
use Rattle.json_blocks.proofs.TextBack.{block-text-back}
use Rattle.json_blocks.proofs.TextUtf8.{block-is_utf8}
use Rattle.json_blocks.proofs.FromText.{back_from_text, once_from_text}
use Rattle.json_blocks.proofs.laws.reading_laws.Goals as goal

pub returns : goal.returns
returns c = record {
  text_back = back_from_text form.block block-text-back block-is_utf8 block-back;
  one_block = once_from_text form.block schema.block block-once;
}
