use Rattle.std.proofs.Common.{Some, ◌∙◌}
use Rattle.block_judge.specs.Changes.{key_of}
use Rattle.block_judge.proofs.ChangeLemmas.{written-same}
use Rattle.block_judge.proofs.changes.Changes.put.Goals as goal

pub returns : goal.returns
returns c = record {
  at = λ other. c.in_ok-insert.ensures.updates.0 (key_of other) ∙ written-same (Some c.args.row) _ _ _ _ other c.self.view_is c.o.view_is;
}
