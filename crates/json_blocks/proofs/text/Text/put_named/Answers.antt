use Rattle.json_blocks.proofs.Plain.{named-zeroth, named-first, named-other}
use Rattle.json_blocks.proofs.text.Text.put_named.Goals as goal

pub returns-then-byte-eq0 : goal.returns-then-byte-eq0
returns-then-byte-eq0 c = named-zeroth c.args.zeroth.now c.args.first.now c.args.byte c.if-byte-eq0.true c.put_text.ensures

pub returns-then-byte-eq1 : goal.returns-then-byte-eq1
returns-then-byte-eq1 c = named-first c.args.zeroth.now c.args.first.now c.args.byte c.if-byte-eq1.true c.put_text-then-byte-eq1.ensures

pub returns-else-byte-eq1 : goal.returns-else-byte-eq1
returns-else-byte-eq1 c = named-other c.args.zeroth.now c.args.first.now c.args.byte c.if-byte-eq0.false c.if-byte-eq1.false c.put_bytes.ensures
