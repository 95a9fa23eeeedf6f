use Rattle.json_blocks.proofs.Plain.{key_put, puts_same}
use Rattle.json_blocks.proofs.text.Text.put_key.Goals as goal

pub returns : goal.returns
returns c = key_put c.args.mark c.args.key.now c.requires c.put.ensures (puts_same c.as_bytes.ensures.value c.put-2.ensures) c.put-3.ensures
