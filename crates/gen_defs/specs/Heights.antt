-- What a block of a generated chain holds beside its parent, its nonce and its time: it depends on its height alone, on both sides of a fork. Capacities are in shannons.
use Rattle.std.specs.Prelude.{ℕ, zero, suc, ◌+◌, ◌-◌, ◌*◌, ◌%◌, pos, Bool, ◌&&◌, ◌==◌, nat_le, List, [], ◌∷◌, unwrap_or, map, if◌then◌else◌}
use Rattle.chain_defs.specs.Shape.{encoded}
use Rattle.chain_defs.specs.Schema.{OutPoint, CellOutput, cellbase_witness, Transaction}
use Rattle.chain_defs.specs.Dao.{DaoField, Movement, miner_part, next_field}
use Rattle.chain_defs.specs.Hashes.{transaction_hash, proposal_id}
use Rattle.rule_defs.specs.Shares.{primary_at, secondary_at}
use Rattle.rule_defs.specs.Fees.{proposer_share, committer_share}
use Rattle.rule_defs.specs.Payment.{occupied_with}
use Rattle.gen_defs.specs.Start.{specification, lock, output_of, cellbase_input, coin_capacity, genesis_hash, genesis_field}

-- ---- The coin: one transaction in four heights spends it and makes it again

-- the heights that commit a transfer of the coin ..
abbrev pub commits : ℕ → Bool
commits height = (height % 4 == 2) && nat_le 6 height

-- .. and those that propose the one that is committed two heights later
abbrev pub proposes : ℕ → Bool
proposes height = (height % 4 == 0) && nat_le 4 height

pub record Coin : Type 0 where
  pub out_point : OutPoint
  pub capacity : ℕ

abbrev pub transfer_fee : ℕ
transfer_fee = 1000

-- what the coin holds once it is transferred
abbrev pub left_of : Coin → ℕ
left_of coin = coin.capacity - transfer_fee

-- A transfer spends the coin, with the program of its lock as its one cell dep, and leaves its fee.
unfoldable pub transfer : Coin → Transaction
transfer coin = record {
  raw = record {
    version = 0;
    cell_deps = record { out_point = record { tx_hash = genesis_hash; index = 0 }; dep_type = 0 } ∷ [];
    header_deps = [];
    inputs = record { since = 0; previous_output = coin.out_point } ∷ [];
    outputs = output_of (left_of coin) ∷ [];
    outputs_data = [] ∷ [];
  };
  witnesses = [];
}

-- its output is the coin from then on
abbrev pub transferred : Coin → Coin
transferred coin = record { out_point = record { tx_hash = transaction_hash (transfer coin); index = 0 }; capacity = left_of coin }

-- the coin of a branch after its block at a height
unfoldable pub coin_after : ℕ → Coin
coin_after zero = record { out_point = record { tx_hash = genesis_hash; index = 1 }; capacity = coin_capacity }
coin_after (suc before) = if commits (suc before) then transferred (coin_after before) else coin_after before

-- ---- The DAO field

-- what a cell under the lock occupies that has no data: 41 bytes
unfoldable pub plain_cell : ℕ
plain_cell = occupied_with lock

abbrev pub count_if : Bool → ℕ
count_if there = if there then 1 else 0

-- the reward of a block is paid so many heights after it: once all that it proposed is committed or cannot be any more
abbrev pub delay : ℕ
delay = 11

abbrev pub pays : ℕ → Bool
pays height = nat_le (delay + 1) height

-- A block issues its shares. It makes the output of its cellbase, where it has one, and it may spend the coin and make it again.
unfoldable pub movement_at : ℕ → Movement
movement_at height = record {
  primary = primary_at specification height;
  secondary = secondary_at specification height;
  interest = pos 0;
  made = (count_if (pays height) + count_if (commits height)) * plain_cell;
  freed = count_if (commits height) * plain_cell;
}

-- The field after the block at a height. A next one is always there: no number leaves u64 in 20,000 blocks.
unfoldable pub field_after : ℕ → DaoField
field_after zero = genesis_field
field_after (suc before) = unwrap_or (next_field (field_after before) (movement_at (suc before))) (field_after before)

-- ---- The cellbase

-- The reward of the block at a height, by the field before it: its shares, and those of the fee where it commits a transfer and where it is the first
-- to propose one.
unfoldable pub reward_by : DaoField → ℕ → ℕ
reward_by before height =
    primary_at specification height
    + miner_part before (secondary_at specification height)
    + count_if (commits height) * committer_share transfer_fee
    + count_if (proposes height) * proposer_share transfer_fee

-- that of a height, 1 or above
abbrev pub reward_of : ℕ → ℕ
reward_of height = reward_by (field_after (height - 1)) height

abbrev pub cellbase_outputs : ℕ → List CellOutput
cellbase_outputs height = if pays height then output_of (reward_of (height - delay)) ∷ [] else []

-- It pays the reward to the one lock there is, and names it too for the reward of its own block.
unfoldable pub cellbase : ℕ → Transaction
cellbase height = record {
  raw = record {
    version = 0;
    cell_deps = [];
    header_deps = [];
    inputs = cellbase_input height ∷ [];
    outputs = cellbase_outputs height;
    outputs_data = map (λ output. []) (cellbase_outputs height);
  };
  witnesses = encoded cellbase_witness (record { lock = lock; message = [] }) ∷ [];
}

-- ---- The lists of a block

unfoldable pub transactions_at : ℕ → List Transaction
transactions_at height = cellbase height ∷ (if commits height then transfer (coin_after (height - 1)) ∷ [] else [])

-- No height between commits, so the coin is the same two heights later.
unfoldable pub proposals_at : ℕ → List (List ℕ)
proposals_at height = if proposes height then proposal_id (transfer (coin_after (height + 1))) ∷ [] else []
