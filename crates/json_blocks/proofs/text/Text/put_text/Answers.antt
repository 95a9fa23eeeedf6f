use Rattle.json_blocks.proofs.Plain.{text_put, puts_same}
use Rattle.json_blocks.proofs.text.Text.put_text.Goals as goal

pub returns : goal.returns
returns c = text_put c.args.text.now c.requires c.put.ensures (puts_same c.as_bytes.ensures.value c.put-2.ensures) c.put-3.ensures
