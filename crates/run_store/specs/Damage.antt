-- Damage that a node finds as its blocks are read is not passed over (docs/COMMANDS.md, "NotAStore").
use Rattle.std.specs.Prelude.{◌≢◌}
use Rattle.node_store.specs.Node.{NodeValue}

-- Where a node found damage in a call, the call ended so.
abbrev pub AnswersDamage : NodeValue → NodeValue → Type 0 → Type 0
AnswersDamage before after Said = after.damages ≢ before.damages → Said
