-- What the next block of a generated chain's branch has beside the rules J31 and J32.
use Rattle.std.specs.Prelude.{◌≡◌, ℕ, ◌*◌, ◌<◌, ◌≤◌, pos, List, drop, length, Some, IsTrue}
use Rattle.chain_defs.specs.Schema.{Block}
use Rattle.chain_defs.specs.Dao.{field_bytes}
use Rattle.chain_defs.specs.Kept.{block_at}
use Rattle.rule_defs.specs.Field.{freed_from, interest_from}
use Rattle.rule_defs.specs.Payment.{lock_of}
use Rattle.rule_defs.specs.RewardRules.{pays_reward, has_next_dao}
use Rattle.gen_defs.specs.Start.{specification, lock}
use Rattle.gen_defs.specs.Heights.{commits, count_if, plain_cell, field_after, transactions_at}
use Rattle.gen_defs.specs.Paid.{PaysItsTransfers}

-- the block of the height after a branch
pub record IsNext (branch : List Block) (b : Block) : Type 0 where
  pub transactions : b.transactions ≡ transactions_at (length branch)
  pub dao : b.header.dao ≡ field_bytes (field_after (length branch))

-- The cellbase of each block above the genesis names the lock of the chain. A premise: that its witness is read back asks that a hash has 32 bytes.
abbrev pub NamesTheLock : List Block → Type 0
NamesTheLock branch = (height : ℕ) → 1 ≤ height → height < length branch → lock_of (block_at branch height) ≡ Some lock

-- What a block spends is the coin, where it commits a transfer: the one input of that is found on the branch. A premise, since it rests on hashes that
-- differ.
pub record SpendsTheCoin (branch : List Block) (b : Block) : Type 0 where
  pub freed : freed_from specification branch b 1 (drop 1 b.transactions) ≡ count_if (commits (length branch)) * plain_cell
  pub interest : interest_from specification branch b 1 (drop 1 b.transactions) ≡ pos 0

-- Law: its cellbase pays what is owed, J31.
abbrev pub PaysWhatIsOwed : Type 0
PaysWhatIsOwed = (branch : List Block) (b : Block) → PaysItsTransfers branch → NamesTheLock branch → IsNext branch b → length branch ≤ 20000
    → IsTrue (pays_reward specification branch b)

-- Law: its DAO field is the next one, J32.
abbrev pub HasItsField : Type 0
HasItsField = (branch : List Block) (b : Block) → PaysItsTransfers branch → IsNext branch b → SpendsTheCoin branch b → 1 ≤ length branch → length branch ≤ 20000
    → IsTrue (has_next_dao specification branch b)
