use Rattle.std.proofs.Common.{◌≡◌, take}
use Rattle.uncle_rules.proofs.proposals.ids_of.Given as goal

-- those before the i-th
abbrev pub invariant-ids : goal.invariant-ids
invariant-ids l = l.ids.items ≡ take l.i l.uncle.proposals
