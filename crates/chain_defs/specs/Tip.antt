-- The tip of the kept blocks: the earliest of those with the greatest number (docs/RULES.md, "Kept blocks and the tip").
use Rattle.std.specs.Prelude.{◌≡◌, ◌↔◌, ℕ, suc, ◌<◌, ◌≤◌, max, ◌==◌, List, [], ◌∷◌, Option, Some, None, if◌then◌else◌, IfSome}
use Rattle.std.specs.Option.{option_map, option_and_then}
use Rattle.chain_defs.specs.Schema.{Block}
use Rattle.chain_defs.specs.Kept.{block_at}
use Rattle.chain_defs.specs.Branch.{branch}

abbrev pub greatest_number : List Block → ℕ
greatest_number [] = 0
greatest_number (block ∷ later) = max block.header.number (greatest_number later)

-- the first place whose block has this number
abbrev pub place_of_number : List Block → ℕ → Option ℕ
place_of_number [] number = None
place_of_number (block ∷ later) number =
    if block.header.number == number then Some 0 else option_map suc (place_of_number later number)

-- the place of the tip
abbrev pub tip_place : List Block → Option ℕ
tip_place kept = place_of_number kept (greatest_number kept)

-- the tip
abbrev pub tip : List Block → Option Block
tip kept = option_and_then (block_at kept) (tip_place kept)

-- The best branch, from which queries are answered: that of the tip.
abbrev pub best_branch : List Block → List Block
best_branch kept = elim (tip_place kept) [
  | None ↦ []
  | Some place ↦ branch kept place
]

-- The tip in words: no number is above its own, and before it each is below.
pub record IsTip (kept : List Block) (place : ℕ) : Type 0 where
  pub top : Block
  pub there : block_at kept place ≡ Some top
  pub greatest : (other : ℕ) → IfSome (block_at kept other) (λ block. block.header.number ≤ top.header.number)
  pub earliest : (other : ℕ) → other < place → IfSome (block_at kept other) (λ block. block.header.number < top.header.number)

-- Law: a place is the tip's exactly where that holds of it.
abbrev pub TipsAreTips : Type 0
TipsAreTips = (kept : List Block) (place : ℕ) → (tip_place kept ≡ Some place) ↔ IsTip kept place
