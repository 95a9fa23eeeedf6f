use Rattle.std.proofs.Common.{sym, ◌∙◌}
use Rattle.json_blocks.proofs.KeyLemmas.{stuck, went, unread, untaken}
use Rattle.json_blocks.proofs.by_keys.Rows.read.Goals as goal

pub returns-then-is_some : goal.returns-then-is_some
returns-then-is_some g c = stuck _ _ _ _ (sym c.is_some.ensures ∙ c.if-is_some.true)

pub returns-in-Ok-read : goal.returns-in-Ok-read
returns-in-Ok-read g c = went _ _ _ _ _ _ _ _ _ _ _ (sym c.is_some.ensures ∙ c.if-is_some.false) c.in-Ok.ensures c.in-Ok-read.ensures c.put.ensures.put c.put.ensures.members

pub returns-in-Err-read : goal.returns-in-Err-read
returns-in-Err-read g c = unread _ _ _ _ _ _ _ _ _ _ (sym c.is_some.ensures ∙ c.if-is_some.false) c.in-Ok.ensures c.in-Err-read.ensures

pub returns-in-Err : goal.returns-in-Err
returns-in-Err g c = untaken _ _ _ _ _ _ _ _ (sym c.is_some.ensures ∙ c.if-is_some.false) c.in-Err.ensures
