-- The root of a list of items, each a hash: the complete binary Merkle tree of RFC 0006 ("Merkle Tree
-- for Static Data"), with CKB's hash. The tree of n items, n at least 1, has 2n - 1 nodes: the inner
-- nodes 0 to n - 2, then the items in their order. The children of node j are 2j + 1 and 2j + 2.
use Rattle.std.specs.Prelude.{◌≡◌, ℕ, zero, suc, ◌+◌, ◌-◌, ◌*◌, ◌<◌, ◌≤◌, nat_lt, if◌then◌else◌, List, [], ◌∷◌, ◌++◌, length, replicate, slice_index_or}
use Rattle.chain_defs.specs.CkbHash.{ckbhash}

-- the item at node j, which is no inner node
abbrev pub leaf : List (List ℕ) → ℕ → List ℕ
leaf items j = slice_index_or items (j - (length items - 1)) []

-- Node j, of which no item is more than `height` nodes below. An inner node is the hash of its left
-- child followed by its right child.
unfoldable pub node_within : ℕ → List (List ℕ) → ℕ → List ℕ
node_within zero items j = leaf items j
node_within (suc height) items j =
    if nat_lt j (length items - 1)
    then ckbhash (node_within height items (2 * j + 1) ++ node_within height items (2 * j + 2))
    else leaf items j

-- Node j. The tree is lower than its items are many, so that the height does not count: the two laws
-- below say what a node is without it.
unfoldable pub node : List (List ℕ) → ℕ → List ℕ
node items j = node_within (length items) items j

-- The root: node 0, and 32 zero bytes where there is no item.
abbrev pub root : List (List ℕ) → List ℕ
root [] = replicate 32 0
root (item ∷ items) = node (item ∷ items) 0

-- ---- what a node is (RFC 0006); the contract of `root_laws` in cbmt

-- an inner node is the hash of its left child followed by its right child
abbrev pub InnerIsHashOfChildren : Type 0
InnerIsHashOfChildren = (items : List (List ℕ)) (j : ℕ) → j < length items - 1
    → node items j ≡ ckbhash (node items (2 * j + 1) ++ node items (2 * j + 2))

-- each other node is an item
abbrev pub OuterIsItem : Type 0
OuterIsItem = (items : List (List ℕ)) (j : ℕ) → length items - 1 ≤ j → node items j ≡ leaf items j
