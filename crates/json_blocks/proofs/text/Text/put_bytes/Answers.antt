use Rattle.std.proofs.Common.{◌<◌, ℕ, slice_index, arith}
use Rattle.hex.specs.Hex.{encode_lower}
use Rattle.json_defs.specs.Form.{byte_string}
use Rattle.json_blocks.proofs.Plain.{hex_put, byte_string-text}
use Rattle.json_blocks.proofs.text.Text.put_bytes.Goals as goal

pub returns : goal.returns
returns c =
    let fits : (i : ℕ) → slice_index c.args.bytes.now i < 256 = λ i. omega (arith, c.type_inv.bytes i) in
    hex_put (byte_string.tree c.args.bytes.now) (encode_lower c.args.bytes.now) (byte_string-text c.args.bytes.now fits)
    c.put.ensures c.put_hex.ensures c.put-2.ensures
