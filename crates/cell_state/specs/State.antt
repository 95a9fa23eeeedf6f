-- What contracts see of the live cells in memory.
use Rattle.std.specs.Prelude.{◌≡◌, ℕ, List, [], ◌∷◌, ◌++◌, length, Some}
use Rattle.std.specs.List.{sum_by}
use Rattle.chain_defs.specs.Schema.{OutPoint, Block}
use Rattle.chain_defs.specs.Kept.{IsKept, place_of}
use Rattle.chain_defs.specs.Row.{live_row}
pub use Rattle.cell_state.specs.Slots.{StateValue, rows, count}

-- how many outputs a block has
abbrev pub outputs_of : Block → ℕ
outputs_of b = sum_by (λ t. length t.raw.outputs) b.transactions

-- Where the rows are those of the branch of a block's kept parent, they are those of the block's own branch then.
abbrev pub Grows : Block → ℕ → StateValue → StateValue → Type 0
Grows b place old new = (kept : List Block) (parent : ℕ) → IsKept (kept ++ b ∷ []) → place_of kept b.header.parent_hash ≡ Some parent → length kept ≡ place
    → ((o : OutPoint) → rows old o ≡ live_row kept parent o) → (o : OutPoint) → rows new o ≡ live_row (kept ++ b ∷ []) place o
