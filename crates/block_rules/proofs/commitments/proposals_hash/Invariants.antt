use Rattle.std.proofs.Common.{take}
use Rattle.std.specs.List.{concat}
use Rattle.blake2b_ckb.specs.Hasher.{Holds}
use Rattle.block_rules.proofs.commitments.proposals_hash.Given as goal

abbrev pub invariant-ids : goal.invariant-ids
invariant-ids l = Holds l.hasher (concat (take l.i l.block.proposals))
