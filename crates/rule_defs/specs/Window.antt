-- The proposal window (RFC 0020, "Two-Step Transaction Confirmation"; docs/RULES.md, "A block" and "The reward"): a transaction is committed in a
-- block some blocks after one that proposes its id.
use Rattle.std.specs.Prelude.{◌≡◌, ◌↔◌, ℕ, ◌+◌, ◌-◌, ◌<◌, ◌≤◌, nat_lt, Bool, false, IsTrue, List, [], ◌∷◌, ◌++◌, length, Option, Some, None, is_some, if◌then◌else◌}
use Rattle.std.specs.List.{list_any, flat_map, find, range_with_len}
use Rattle.std.specs.Str.{bytes_eq}
use Rattle.chain_defs.specs.Schema.{UncleBlock, Block}
use Rattle.chain_defs.specs.Specification.{Specification}
use Rattle.chain_defs.specs.Kept.{block_at}

-- the ids that a block proposes: its own, and those of the uncles that it embeds
abbrev pub proposed_ids : Block → List (List ℕ)
proposed_ids b = b.proposals ++ flat_map (λ uncle. uncle.proposals) b.uncles

abbrev pub proposes : List ℕ → Option Block → Bool
proposes id None = false
proposes id (Some b) = list_any (λ other. bytes_eq other id) (proposed_ids b)

-- the block at a height of the branch proposes the id
unfoldable pub proposes_at : List Block → List ℕ → ℕ → Bool
proposes_at branch id height = proposes id (block_at branch height)

-- The heights at which what is committed at a height may be proposed, w_far to w_close before it, the lowest first.
unfoldable pub window : Specification → ℕ → List ℕ
window spec height =
    if nat_lt height spec.w_close then []
    else range_with_len (height - spec.w_far) (height - spec.w_close + 1 - (height - spec.w_far))

-- The earliest proposer of an id that is committed at a height: the lowest height of the window at which the branch proposes it.
unfoldable pub earliest : Specification → List Block → List ℕ → ℕ → Option ℕ
earliest spec branch id height = find (proposes_at branch id) (window spec height)

-- The earliest proposer in words: it proposes the id, between w_close and w_far before the height, and no lower height does so.
pub record IsEarliest (spec : Specification) (branch : List Block) (id : List ℕ) (height proposer : ℕ) : Type 0 where
  pub close : proposer + spec.w_close ≤ height
  pub far : height ≤ proposer + spec.w_far
  pub proposed : IsTrue (proposes_at branch id proposer)
  pub lowest : (other : ℕ) → other < proposer → height ≤ other + spec.w_far → proposes_at branch id other ≡ false

-- Law: a height is the earliest proposer exactly where that holds of it.
abbrev pub EarliestIsEarliest : Type 0
EarliestIsEarliest = (spec : Specification) (branch : List Block) (id : List ℕ) (height proposer : ℕ)
    → (earliest spec branch id height ≡ Some proposer) ↔ IsEarliest spec branch id height proposer

-- a block that embeds one uncle more
abbrev pub with_uncle : Block → UncleBlock → Block
with_uncle b uncle = record b { uncles = b.uncles ++ uncle ∷ [] }

-- Law: an uncle more can only add to what is proposed: what has a proposer still has one.
abbrev pub UnclesOnlyAdd : Type 0
UnclesOnlyAdd = (spec : Specification) (before later : List Block) (b : Block) (uncle : UncleBlock) (id : List ℕ) (height : ℕ)
    → IsTrue (is_some (earliest spec (before ++ b ∷ later) id height))
    → IsTrue (is_some (earliest spec (before ++ with_uncle b uncle ∷ later) id height))

-- Law: what is committed at a height has the same earliest proposer on every longer branch, once all blocks before that height stand.
abbrev pub EarliestStays : Type 0
EarliestStays = (spec : Specification) (branch more : List Block) (id : List ℕ) (height : ℕ) → 1 ≤ spec.w_close → height ≤ length branch
    → earliest spec (branch ++ more) id height ≡ earliest spec branch id height
