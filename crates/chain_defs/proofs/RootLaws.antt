-- What a node of the tree is, with no height.
use Rattle.std.proofs.Common.{◌≡◌, ℕ, zero, suc, ◌+◌, ◌-◌, ◌*◌, ◌<◌, ◌≤◌, true, false, ltb, List, ◌++◌, length, refl, sym, ap, inl, inr, ◌∙◌, arith}
use Rattle.std.proofs.lemmas.Bool.{lt-ltb, le-ltb, cases_lt}
use Rattle.chain_defs.specs.CkbHash.{ckbhash}
use Rattle.chain_defs.specs.Root.{leaf, node_within, node, InnerIsHashOfChildren, OuterIsItem}

within-leaf : (height : ℕ) (items : List (List ℕ)) (j : ℕ) → length items - 1 ≤ j → node_within height items j ≡ leaf items j
unfolding node_within
within-leaf zero items j past = refl
within-leaf (suc height) items j past = let outer : ltb j (length items - 1) ≡ false = le-ltb _ _ past in rw outer refl

within-inner : (height : ℕ) (items : List (List ℕ)) (j : ℕ) → j < length items - 1
    → node_within (suc height) items j ≡ ckbhash (node_within height items (2 * j + 1) ++ node_within height items (2 * j + 2))
unfolding node_within
within-inner height items j inner = let is : ltb j (length items - 1) ≡ true = lt-ltb _ _ inner in rw is refl

-- heights that are enough give the same node
within-same : (height more : ℕ) (items : List (List ℕ)) (j : ℕ) → length items - 1 ≤ height + j → length items - 1 ≤ more + j
    → node_within height items j ≡ node_within more items j
within-same zero more items j low high = let past : length items - 1 ≤ j = omega arith in within-leaf zero items j past ∙ sym (within-leaf more items j past)
within-same (suc height) zero items j low high = let past : length items - 1 ≤ j = omega arith in within-leaf (suc height) items j past ∙ sym (within-leaf zero items j past)
within-same (suc height) (suc more) items j low high =
    let left = within-same height more items (2 * j + 1) (omega arith) (omega arith) in
    let right = within-same height more items (2 * j + 2) (omega arith) (omega arith) in
    elim (cases_lt j (length items - 1)) [
      | inl inner ↦ within-inner height items j inner
          ∙ (ap (λ (hash : List ℕ). ckbhash (hash ++ node_within height items (2 * j + 2))) left
          ∙ ap (λ (hash : List ℕ). ckbhash (node_within more items (2 * j + 1) ++ hash)) right)
          ∙ sym (within-inner more items j inner)
      | inr past ↦ within-leaf (suc height) items j past ∙ sym (within-leaf (suc more) items j past)
    ]

-- an inner node is the hash of its children
pub node-inner : InnerIsHashOfChildren
unfolding node
node-inner items j inner =
    let n = length items in
    within-same n (suc n) items j (omega arith) (omega arith) ∙ within-inner n items j inner

-- each other node is an item
pub node-leaf : OuterIsItem
unfolding node
node-leaf items j past = within-leaf (length items) items j past
