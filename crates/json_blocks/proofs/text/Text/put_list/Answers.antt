use Rattle.std.proofs.Common.{arith}
use Rattle.std.specs.Prelude.{nat_lt}
use Rattle.json_blocks.proofs.RowTexts.{list_begins, list_goes_on, list_ends, item_at}
use Rattle.json_blocks.proofs.text.Text.put_list.Goals as goal

pub items-init : goal.items-init
items-init g c = list_begins (g.L.Items.trees c.args.of.now) c.put.ensures

pub items-preserved : goal.items-preserved
items-preserved g c =
    let ds = g.L.Items.trees c.args.of.now in
    let here = item_at ds c.items.i (omega (arith, c.items-test.true, c.requires)) in
    list_goes_on ds c.items.i here.0 here.1 c.items.invariant c.put_comma.ensures (c.write.ensures here.0 here.1)

pub returns : goal.returns
returns g c =
    record { is = (list_ends (g.L.Items.trees c.args.of.now) (nat_lt 0 c.items.i) c.items.i (omega (arith, c.items-test.false, c.requires)) c.items.invariant c.put-2.ensures).is }
