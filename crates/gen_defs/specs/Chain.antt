-- The blocks of a generated chain, in the order in which they are made: which is the parent of which, and each by its parent.
use Rattle.std.specs.Prelude.{ℕ, zero, suc, ◌+◌, ◌*◌, ◌%◌, Bool, false, true, not, ◌&&◌, ◌==◌, nat_le, List, [], map, if◌then◌else◌}
use Rattle.std.specs.List.{range_with_len}
use Rattle.chain_defs.specs.Schema.{Block}
use Rattle.chain_defs.specs.Epochs.{epoch_field}
use Rattle.chain_defs.specs.Dao.{field_bytes}
use Rattle.chain_defs.specs.Kept.{block_hash}
use Rattle.chain_defs.specs.Hashes.{transactions_root, proposals_hash, uncles_hash}
use Rattle.gen_defs.specs.Start.{specification, genesis}
use Rattle.gen_defs.specs.Heights.{field_after, transactions_at, proposals_at}

-- ---- A block by its parent

-- the block after its parent, of a height and with a nonce
unfoldable pub block_after : Block → ℕ → ℕ → Block
block_after parent height nonce = record {
  header = record {
    version = 0;
    compact_target = specification.compact_target;
    timestamp = parent.header.timestamp + 1000;
    number = height;
    epoch = epoch_field specification.epoch_length height;
    parent_hash = block_hash parent;
    transactions_root = transactions_root (transactions_at height);
    proposals_hash = proposals_hash (proposals_at height);
    uncles_hash = uncles_hash [];
    dao = field_bytes (field_after height);
    nonce = nonce;
  };
  uncles = [];
  transactions = transactions_at height;
  proposals = proposals_at height;
}

-- its height is one above its parent's
abbrev pub child : Block → ℕ → Block
child parent nonce = block_after parent (parent.header.number + 1) nonce

-- ---- The parents

-- where the chain stands: its tip, the tip's parent, the block that was made last, and whether that one is a sibling
pub record Standing : Type 0 where
  pub tip : Block
  pub before_tip : Block
  pub last : Block
  pub is_sibling : Bool

-- Where block i is made beside the tip: by the seed, about one block in seven.
abbrev pub forks : ℕ → ℕ → Bool
forks seed i = nat_le 2 i && ((seed + 3 * i) % 7 == 0)

-- The parent of block i. It is the block before it, where that one is a sibling: the chain goes over to its side. Else it is the tip's parent, where
-- the chain forks, and else the tip.
abbrev pub parent_of : ℕ → ℕ → Standing → Block
parent_of seed i standing =
    if standing.is_sibling then standing.last
    else if forks seed i then standing.before_tip
    else standing.tip

-- whether block i is a sibling: of the tip's height, beside it
abbrev pub is_beside : ℕ → ℕ → Standing → Bool
is_beside seed i standing = not standing.is_sibling && forks seed i

-- A sibling leaves the tip as it is, and each other block becomes the tip.
abbrev pub with_made : Standing → Block → Block → Bool → Standing
with_made standing parent made beside =
    if beside then record { tip = standing.tip; before_tip = standing.before_tip; last = made; is_sibling = true }
    else record { tip = made; before_tip = parent; last = made; is_sibling = false }

-- Block i is made.
abbrev pub grown : ℕ → ℕ → Standing → Standing
grown seed i standing = with_made standing (parent_of seed i standing) (child (parent_of seed i standing) i) (is_beside seed i standing)

-- where the chain stands after block i. Block 0 is the genesis.
unfoldable pub standing_after : ℕ → ℕ → Standing
standing_after seed zero = record { tip = genesis; before_tip = genesis; last = genesis; is_sibling = false }
standing_after seed (suc before) = grown seed (suc before) (standing_after seed before)

abbrev pub block_made : ℕ → ℕ → Block
block_made seed i = (standing_after seed i).last

-- The blocks after the genesis, of a seed and a count.
unfoldable pub blocks_made : ℕ → ℕ → List Block
blocks_made seed n = map (block_made seed) (range_with_len 1 n)
