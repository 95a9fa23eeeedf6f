use Rattle.json_blocks.proofs.RowTexts.{keyed}
use Rattle.json_blocks.proofs.text.Text.bytes_row.Goals as goal

pub returns : goal.returns
returns c = keyed c.args.mark c.args.key.now c.put_key.ensures c.put_bytes.ensures
