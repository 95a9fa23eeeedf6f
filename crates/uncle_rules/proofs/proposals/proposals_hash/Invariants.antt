use Rattle.std.proofs.Common.{take}
use Rattle.std.specs.List.{concat}
use Rattle.blake2b_ckb.specs.Hasher.{Holds}
use Rattle.uncle_rules.proofs.proposals.proposals_hash.Given as goal

abbrev pub invariant-ids : goal.invariant-ids
invariant-ids l = Holds l.hasher (concat (take l.i l.uncle.proposals))
