use Rattle.std.proofs.Common.{sym}
use Rattle.std.proofs.lemmas.List.{append-nil}
use Rattle.block_judge.proofs.ExtLemmas.{spent-more, spent-each}
use Rattle.block_judge.proofs.spent.push_spent.Goals as goal

pub inputs-init : goal.inputs-init
inputs-init c = sym (append-nil _)

pub inputs-preserved : goal.inputs-preserved
inputs-preserved c =
    spent-more c.args.e c.args.inputs.now c.inputs.input-index c.input-item.result c.args.spent.now.items c.inputs.spent.items _ c.inputs-test.true
    c.input-item.is c.inputs.invariant c.in_ok-push_row.ensures

pub returns : goal.returns
returns c = spent-each c.args.e c.args.inputs.now c.inputs.input-index c.args.spent.now.items c.inputs.spent.items c.inputs-test.false c.inputs.invariant
