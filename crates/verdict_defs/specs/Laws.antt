-- What the verdict is for, in words (docs/COMMANDS.md, "The text").
use Rattle.std.specs.Prelude.{◌≡◌, ◌↔◌, ℕ, ◌<◌, ◌≤◌, List, [], ◌∷◌, ◌++◌, length, Some, None, is_some, IsTrue}
use Rattle.chain_defs.specs.Shape.{decoded}
use Rattle.chain_defs.specs.Schema.{Block}
use Rattle.chain_defs.specs.Schema as shapes
use Rattle.chain_defs.specs.Kept.{block_hash, place_of, IsKept, kept_limit}
use Rattle.chain_defs.specs.Branch.{branch}
use Rattle.chain_defs.specs.Specification.{Specification}
use Rattle.verdict_defs.specs.Rules.{first_broken}
use Rattle.verdict_defs.specs.Verdict.{verdict, joins, kept_after}
use Rattle.verdict_defs.specs.Chain.{Chain, chain_over}
use Rattle.verdict_defs.specs.declared.verdict.Verdict.{Verdict}
use Rattle.verdict_defs.specs.declared.verdict.Verdict.TheVariants.{Joined, Known, Refused, Full}

-- A block is not kept yet, on a kept parent, and it breaks no rule, and there is room.
pub record MayJoin (spec : Specification) (kept : List Block) (block : Block) : Type 0 where
  pub new : place_of kept (block_hash block) ≡ None
  pub parent : ℕ
  pub on_kept : place_of kept block.header.parent_hash ≡ Some parent
  pub unbroken : first_broken spec (branch kept parent) block ≡ None
  pub room : length kept < kept_limit

-- An item is a canonical `Block` for which that holds.
pub record CanJoin (spec : Specification) (kept : List Block) (item : List ℕ) : Type 0 where
  pub block : Block
  pub canonical : decoded shapes.block item ≡ Some block
  pub may : MayJoin spec kept block

-- Law: an item joins exactly where it is so.
abbrev pub JoinsExactly : Type 0
JoinsExactly = (spec : Specification) (kept : List Block) (item : List ℕ) → IsTrue (joins (verdict spec kept item)) ↔ CanJoin spec kept item

-- Law: such an item is answered with its number and its hash, and its block is put at the end. Any other leaves what is kept.
abbrev pub KeepsWhatJoins : Type 0
KeepsWhatJoins = (spec : Specification) (kept : List Block) (item : List ℕ)
    → ((can : CanJoin spec kept item) → (verdict spec kept item ≡ Joined can.block.header.number (block_hash can.block))
    × (kept_after spec kept item ≡ kept ++ can.block ∷ []))
    × ((CanJoin spec kept item → ⊥) → kept_after spec kept item ≡ kept)

-- Law: a genesis alone is kept, and kept blocks stay so after any item.
abbrev pub KeepingKeeps : Type 0
KeepingKeeps = ((genesis : Block) → IsKept (genesis ∷ []))
    × ((spec : Specification) (kept : List Block) (item : List ℕ) → IsKept kept → IsKept (kept_after spec kept item))

-- Law: after any items kept blocks are still so, and those that were kept stay before what joined.
abbrev pub KeptStays : Type 0
KeptStays = (chain : Chain) (items : List (List ℕ)) → (IsKept chain.blocks → IsKept (chain_over chain items).blocks)
    × ((more : List Block) × ((chain_over chain items).blocks ≡ chain.blocks ++ more))

-- Law: an item that can join can do so whatever joined since, as long as its block is not kept and there is room: it is judged over the branch of
-- its parent alone, whichever the tip is.
abbrev pub JoinsOnItsBranch : Type 0
JoinsOnItsBranch = (chain : Chain) (items : List (List ℕ)) (item : List ℕ) (can : CanJoin chain.spec chain.blocks item)
    → place_of (chain_over chain items).blocks (block_hash can.block) ≡ None → length (chain_over chain items).blocks < kept_limit
    → CanJoin chain.spec (chain_over chain items).blocks item

-- What a canonical block that does not join is answered. The premises of a sentence say that none before it holds.
pub record AnswersBlock (spec : Specification) (kept : List Block) (block : Block) (answer : Verdict) : Type 0 where
  -- it is known exactly where a kept block has its hash
  pub known : (answer ≡ Known (block_hash block)) ↔ IsTrue (is_some (place_of kept (block_hash block)))
  -- J3: a new one breaks rule 3 where no kept block has the hash of its parent
  pub without_parent : place_of kept (block_hash block) ≡ None → place_of kept block.header.parent_hash ≡ None → answer ≡ Refused 3
  -- on a kept parent it is refused by exactly the first rule that it breaks on the branch of that parent
  pub refused : place_of kept (block_hash block) ≡ None → (parent : ℕ) → place_of kept block.header.parent_hash ≡ Some parent → (rule : ℕ)
      → (answer ≡ Refused rule) ↔ (first_broken spec (branch kept parent) block ≡ Some rule)
  -- one that breaks no rule finds the store full exactly where as many blocks are kept as may be
  pub full : place_of kept (block_hash block) ≡ None → (parent : ℕ) → place_of kept block.header.parent_hash ≡ Some parent
      → first_broken spec (branch kept parent) block ≡ None → (answer ≡ Full) ↔ (kept_limit ≤ length kept)

-- What an item that does not join is answered.
pub record Answers (spec : Specification) (kept : List Block) (item : List ℕ) (answer : Verdict) : Type 0 where
  -- J1: one that is no canonical `Block` breaks rule 1
  pub no_block : decoded shapes.block item ≡ None → answer ≡ Refused 1
  -- any other is answered by its block
  pub a_block : (block : Block) → decoded shapes.block item ≡ Some block → AnswersBlock spec kept block answer

-- Law: so the verdict on each item is.
abbrev pub AnswersExactly : Type 0
AnswersExactly = (spec : Specification) (kept : List Block) (item : List ℕ) → Answers spec kept item (verdict spec kept item)
