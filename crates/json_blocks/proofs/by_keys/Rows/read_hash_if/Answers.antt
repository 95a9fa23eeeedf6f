use Rattle.json_blocks.proofs.KeyLemmas.{here, not_here}
use Rattle.json_blocks.proofs.by_keys.Rows.read_hash_if.Goals as goal

pub returns-then-is_here : goal.returns-then-is_here
returns-then-is_here c = here _ _ _ _ _ _ _ _ c.if-is_here.true c.read.ensures

pub returns-else-is_here : goal.returns-else-is_here
returns-else-is_here c = not_here _ _ _ _ _ _ _ _ _ c.if-is_here.false c.new.ensures.items c.put.ensures.put c.put.ensures.members
