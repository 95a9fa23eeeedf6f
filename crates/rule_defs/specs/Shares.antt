-- What is issued for a block: its shares of the rewards of its epoch (docs/RULES.md, "Epochs and issuance"). In shannons.
use Rattle.std.specs.Prelude.{ℕ}
use Rattle.chain_defs.specs.Specification.{Specification}
use Rattle.chain_defs.specs.Epochs.{share, primary_share}

-- g: the share of the block at a height in the primary reward
abbrev pub primary_at : Specification → ℕ → ℕ
primary_at spec height = primary_share spec.epoch_length spec.primary_reward spec.halving_interval height

-- s: its share of the secondary reward
abbrev pub secondary_at : Specification → ℕ → ℕ
secondary_at spec height = share spec.epoch_length height spec.secondary_reward
