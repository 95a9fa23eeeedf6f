use Rattle.json_blocks.proofs.KeyLemmas.{ended, not_ended}
use Rattle.json_blocks.proofs.by_keys.Rows.joined.Goals as goal

pub returns-in-Ok : goal.returns-in-Ok
returns-in-Ok c = ended c.in-Ok.field-0 _ _ _ c.args.self.fields.items _ _ c.in-Ok.ensures.none_left c.in-Ok.ensures.stopped c.deref.ensures.value c.joined.ensures

pub returns : goal.returns
returns c = not_ended _ _ _ _ _ _ c.in-Err.ensures.none_left c.in-Err.ensures.stopped
