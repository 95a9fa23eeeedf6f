-- What the calls keep of what the blocks of a height hold, and of what a branch comes to with them.
use Rattle.std.specs.Prelude.{◌≡◌, ◌<◌, ◌≤◌, ℕ, List, [], ◌∷◌, length, Option, Some, None, slice_get}
use Rattle.chain_defs.specs.Shape.{encoded, fixvec, dynvec}
use Rattle.chain_defs.specs.Schema as schema
use Rattle.chain_defs.specs.Hashes as hashes
use Rattle.gen_defs.specs.Heights as heights
use Rattle.chain_gen.specs.declared.heights.After.{After}

-- what a block holds beside what every block has: nothing, or one
abbrev pub listed : {A : Type 0} → Option A → List A
listed None = []
listed (Some a) = a ∷ []

-- what a branch comes to with its block at a height
abbrev pub after_height : ℕ → After
after_height height = record { coin = heights.coin_after height; field = heights.field_after height }

-- each height from 0 on has what a branch comes to with it
pub record KeepsHeights (after : List After) : Type 0 where
  pub at : (height : ℕ) → height < length after → slice_get after height ≡ Some (after_height height)

-- The content of the blocks of a height: the encodings of their lists, of at most 2,100 bytes, what a header says of these, and what comes after.
pub record IsContent (height : ℕ) (transactions transactions_root proposals proposals_hash : List ℕ) (after : After) : Type 0 where
  pub transactions_are : transactions ≡ encoded (dynvec schema.transaction) (heights.transactions_at height)
  pub transactions_size : length transactions ≤ 2100
  pub root_is : transactions_root ≡ hashes.transactions_root (heights.transactions_at height)
  pub proposals_are : proposals ≡ encoded (fixvec 10 schema.proposal_short_id) (heights.proposals_at height)
  pub proposals_size : length proposals ≤ 100
  pub proposals_hash_is : proposals_hash ≡ hashes.proposals_hash (heights.proposals_at height)
  pub after_is : after ≡ after_height height
