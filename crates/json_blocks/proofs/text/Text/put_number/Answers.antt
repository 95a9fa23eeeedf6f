use Rattle.std.proofs.Common.{◌-◌, ◌∙◌, drop, arith, take_all, length-drop}
use Rattle.std.specs.Prelude.{false}
use Rattle.std.specs.Fmt.{digits}
use Rattle.json_defs.specs.Form.{hex_number}
use Rattle.json_blocks.proofs.Plain.{hex_put, number-text, puts_same}
use Rattle.json_blocks.proofs.text.Text.put_number.Goals as goal

pub returns : goal.returns
returns c =
    let start = c.number_digits-start.result in
    let all = take_all (64 - start) (drop start c.number_digits-start.new.text) (omega (arith, length-drop start c.number_digits-start.new.text, c.number_digits-start.array_long)) in
    hex_put (hex_number.tree c.args.n) (digits 16 false c.args.n) (number-text c.args.n)
    c.put.ensures (puts_same (all ∙ c.number_digits-start.ensures.value) c.put-2.ensures) c.put-3.ensures
