use Rattle.script_run.proofs.LookLemmas.{one-there}
use Rattle.std.proofs.Common.{Some, ◌∙◌}
use Rattle.script_run.proofs.items.witness_at.Goals as goal

pub returns : goal.returns
returns c =
    one-there Some c.args.tx.now.witnesses c.args.i c.witnesses_item.result.now c.witnesses_item.ensures.at
    ∙ c.slice.ensures
