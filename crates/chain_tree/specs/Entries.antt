-- The entries of a tree of blocks, genesis first, in the order in which they were added. An entry is named by its place.
use Rattle.std.specs.Prelude.{◌≡◌, ℕ, zero, suc, ◌+◌, ◌^◌, ◌<◌, ◌≤◌, List, [], ◌∷◌, length, Option, Some, None, if◌then◌else◌, option_map, IsSomeAnd, slice_get}
use Rattle.std.specs.Option.{option_and_then}
use Rattle.std.specs.Str.{bytes_eq}
use Rattle.chain_tree.specs.declared.entry.Entry.{Entry}

-- What contracts see of a tree: its entries, and how many more can be added without an allocation.
pub record TreeValue : Type 0 where
  pub entries : List Entry
  pub spare : ℕ

-- the entry at a place
abbrev pub entry_at : List Entry → ℕ → Option Entry
entry_at entries place = slice_get entries place

-- the place of the first entry with this hash
abbrev pub place_of_hash : List Entry → List ℕ → Option ℕ
place_of_hash [] hash = None
place_of_hash (entry ∷ later) hash = if bytes_eq entry.hash hash then Some 0 else option_map suc (place_of_hash later hash)

-- the place of the parent; the genesis has none
abbrev pub parent_of : List Entry → ℕ → Option ℕ
parent_of entries zero = None
parent_of entries (suc place) = option_map (λ entry. entry.parent) (entry_at entries (suc place))

-- the place so many parents up
abbrev pub place_up : List Entry → ℕ → ℕ → Option ℕ
place_up entries zero place = Some place
place_up entries (suc steps) place = option_and_then (place_up entries steps) (parent_of entries place)

-- One place is on the path of another, by parents; each is on its own (docs/RULES.md, "Kept blocks and the tip").
abbrev pub IsAncestor : List Entry → ℕ → ℕ → Type 0
IsAncestor entries place other = (steps : ℕ) × (place_up entries steps place ≡ Some other)

-- An entry's parent is kept, and its number is that one's plus 1.
abbrev pub FollowsParent : List Entry → Entry → Type 0
FollowsParent entries entry = IsSomeAnd (entry_at entries entry.parent) (λ parent. entry.number ≡ parent.number + 1)

-- The tip: no number is above its own, and before it each is below (docs/RULES.md, "Kept blocks and the tip").
pub record IsTipEntry (entries : List Entry) (place : ℕ) : Type 0 where
  pub top : Entry
  pub there : entry_at entries place ≡ Some top
  pub greatest : (other : ℕ) (entry : Entry) → entry_at entries other ≡ Some entry → entry.number ≤ top.number
  pub earliest : (other : ℕ) (entry : Entry) → other < place → entry_at entries other ≡ Some entry → entry.number < top.number

-- What is so of the entries of every tree.
pub record IsTree (entries : List Entry) : Type 0 where
  -- the first is of number 0, and a place is a u32
  pub genesis : IsSomeAnd (entry_at entries 0) (λ entry. entry.number ≡ 0)
  pub few : length entries < 2 ^ 32
  -- each other follows an earlier one
  pub earlier : (place : ℕ) (entry : Entry) → entry_at entries (suc place) ≡ Some entry → entry.parent < suc place
  pub follows : (place : ℕ) (entry : Entry) → entry_at entries (suc place) ≡ Some entry → FollowsParent entries entry
  -- no number is above its place
  pub numbers : (place : ℕ) (entry : Entry) → entry_at entries place ≡ Some entry → entry.number ≤ place
  -- the hashes differ: each entry is found by its own
  pub found : (place : ℕ) (entry : Entry) → entry_at entries place ≡ Some entry → place_of_hash entries entry.hash ≡ Some place
