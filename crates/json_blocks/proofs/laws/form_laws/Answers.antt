use Rattle.json_blocks.proofs.ReadBack.{block-back}
use Rattle.json_blocks.proofs.ReadOnce.{block-once}
use Rattle.json_blocks.proofs.TextBack.{block-text-back}
use Rattle.json_blocks.proofs.laws.form_laws.Goals as goal

pub returns : goal.returns
returns c = record { text_of_tree = block-text-back; read_back = block-back; read_once = block-once }
