-- The timestamps on the path of a place.
use Rattle.std.specs.Prelude.{ℕ, zero, suc, List, [], ◌∷◌, Some, None}
use Rattle.chain_tree.specs.declared.entry.Entry.{Entry}
use Rattle.chain_tree.specs.Entries.{entry_at, parent_of}

-- those of a place and of the places above it by parents, at most so many, the latest first
unfoldable pub timestamps_up : List Entry → ℕ → ℕ → List ℕ
timestamps_up entries zero place = []
timestamps_up entries (suc most) place = elim (entry_at entries place) [
  | None ↦ []
  | Some entry ↦ entry.timestamp ∷ elim (parent_of entries place) [
    | None ↦ []
    | Some parent ↦ timestamps_up entries most parent
  ]
]
