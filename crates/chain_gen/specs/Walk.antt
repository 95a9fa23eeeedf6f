-- What is kept of a walk over blocks: of a block its hash, its height and its time.
use Rattle.std.specs.Prelude.{◌≡◌, ℕ, ◌+◌, List, length}
use Rattle.chain_defs.specs.Schema.{Block}
use Rattle.chain_defs.specs.Kept.{block_hash}
use Rattle.gen_defs.specs.Chain as chain
use Rattle.chain_gen.specs.Content.{KeepsHeights}
use Rattle.chain_gen.specs.declared.heights.After.{After}
use Rattle.chain_gen.specs.declared.growth.Head.{Head}
use Rattle.chain_gen.specs.declared.growth.Standing.{Standing}

pub record IsHead (head : Head) (b : Block) : Type 0 where
  pub hash_is : head.hash ≡ block_hash b
  pub number_is : head.number ≡ b.header.number
  pub timestamp_is : head.timestamp ≡ b.header.timestamp

-- the heads of where a chain stands
pub record StandsAt (kept : Standing) (standing : chain.Standing) : Type 0 where
  pub tip_is : IsHead kept.tip standing.tip
  pub before_tip_is : IsHead kept.before_tip standing.before_tip
  pub last_is : IsHead kept.last standing.last
  pub is_sibling_is : kept.is_sibling ≡ standing.is_sibling

-- A walk stands after block i: at its place, with what a branch comes to at each height up to the tip's.
pub record IsAt (kept : Standing) (after : List After) (seed i : ℕ) : Type 0 where
  pub stands : StandsAt kept (chain.standing_after seed i)
  pub heights_are : KeepsHeights after
  pub count_is : length after ≡ (chain.standing_after seed i).tip.header.number + 1
