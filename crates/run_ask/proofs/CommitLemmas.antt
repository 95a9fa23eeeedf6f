-- What the entry of a kept block says of it.
use Rattle.std.proofs.Common.{◌≡◌, ℕ, Bool, List, refl, ap, sym, ◌∙◌, subst}
use Rattle.std.specs.Prelude.{Option, Some, None, IsSomeAnd}
use Rattle.chain_defs.specs.Schema.{Block}
use Rattle.chain_defs.specs.Kept.{block_at, place_of}
use Rattle.chain_tree.specs.declared.entry.Entry.{Entry}
use Rattle.chain_tree.specs.Blocks.{Describes}
use Rattle.ask_defs.specs.Answers.{is_on_best, branch_line, branch_of_block, branch_of_place}

-- ---- The entry of a block

pub describes-there : (kept : List Block) (place : ℕ) (entry : Entry) (b : Block) → IsSomeAnd (block_at kept place) (λ block. Describes block entry) → block_at kept place ≡ Some b
    → Describes b entry
describes-there kept place entry b described there = subst (λ (found : Option Block). IsSomeAnd found (λ block. Describes block entry)) there described

-- the line of `branch`, by the entry of the block
pub branch-line-is : (kept : List Block) (hash : List ℕ) (place : ℕ) (best : Bool) (entry : Entry) → place_of kept hash ≡ Some place → best ≡ is_on_best kept place
    → IsSomeAnd (block_at kept place) (λ block. Describes block entry) → branch_line best entry.number ≡ branch_of_place kept (place_of kept hash)
branch-line-is kept hash place best entry named is described =
    by_block (block_at kept place) refl ∙ ap (branch_of_place kept) (sym named)
  where
    by_block : (found : Option Block) → block_at kept place ≡ found → branch_line best entry.number ≡ branch_of_block (is_on_best kept place) (block_at kept place)
    by_block None there = absurd (subst (λ (found : Option Block). IsSomeAnd found (λ block. Describes block entry)) there described)
    by_block (Some b) there =
        ap (λ (t : Bool). branch_line t entry.number) is
        ∙ ap (branch_line (is_on_best kept place)) (describes-there kept place entry b described there).number
        ∙ ap (branch_of_block (is_on_best kept place)) (sym there)
