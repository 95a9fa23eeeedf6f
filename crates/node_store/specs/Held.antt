-- What a cache holds: kept blocks with their exts, each for an entry that is named by its place.
use Rattle.std.specs.Prelude.{◌≡◌, ◌⊎◌, ℕ, ◌<◌, List, Contains, Option, Some, None, IsTrue, IsSome, IfSome, slice_get, nat_eq}
use Rattle.std.specs.Map.{lookup}
use Rattle.chain_defs.specs.Ext.{is_ext}
use Rattle.outside.specs.Image.{Image}
use Rattle.chain_tree.specs.Told.{Stored}
use Rattle.chain_tree.specs.Reading.{Findings}
use Rattle.chain_tree.specs.declared.entry.Entry.{Entry}
use Rattle.node_store.specs.Stored.{stored_at}

-- What clauses see of a cache: the blocks that it holds, the last used first; how many it holds at most; and the damage that was found as a block was
-- read for it.
pub record CacheValue : Type 0 where
  pub held : List (ℕ × Stored)
  pub most : ℕ
  pub damages : Findings

-- What a store of kept blocks has on loan, by the names of the loans, and what stays of it while blocks are read: the content of its disk, the
-- entries of its tree, and how many blocks its cache holds at most.
pub record Lent (C : Type 0) : Type 0 where
  pub disk : ℕ
  pub cache : ℕ
  pub content : C
  pub entries : List Entry
  pub most : ℕ

-- the one that is found for an entry
abbrev pub held_at : List (ℕ × Stored) → ℕ → Option Stored
held_at held e = lookup (nat_eq e) held

-- it is one of those that are held for the entry
abbrev pub Holds : List (ℕ × Stored) → ℕ → Stored → Type 0
Holds held e it = Contains held (e, it)

-- what is held now was held before
abbrev pub NothingNew : List (ℕ × Stored) → List (ℕ × Stored) → Type 0
NothingNew old new = (e : ℕ) (it : Stored) → Holds new e it → Holds old e it

-- what is held now was held before, or is this one, for this entry
abbrev pub OnlyAdds : ℕ → Stored → List (ℕ × Stored) → List (ℕ × Stored) → Type 0
OnlyAdds e it old new = (other : ℕ) (found : Stored) → Holds new other found → Holds old other found ⊎ ((other ≡ e) × (found ≡ it))

-- what is held for an entry after the genesis has an ext of the form of one, whatever a disk tells
abbrev pub HaveForm : List (ℕ × Stored) → Type 0
HaveForm held = (e : ℕ) (it : Stored) → Holds held e it → 0 < e → IsTrue (is_ext it.ext)

-- what is held for an entry is what LOG has for it
abbrev pub IsKept : List Entry → List (ℕ × Stored) → Image → Type 0
IsKept entries held image = (e : ℕ) (it : Stored) → Holds held e it → stored_at image entries e ≡ Some it

-- what is held for an entry is the one at its place
abbrev pub AgreesWith : List Stored → List (ℕ × Stored) → Type 0
AgreesWith stored held = (e : ℕ) (it : Stored) → Holds held e it → slice_get stored e ≡ Some it

-- the current entry, if there is one, is one of so many, and one is held for it
abbrev pub IsInHand : ℕ → List (ℕ × Stored) → Option ℕ → Type 0
IsInHand count held hand = IfSome hand (λ e. (e < count) × IsSome (held_at held e))

pub hand_below : (count : ℕ) (held : List (ℕ × Stored)) (hand : Option ℕ) → IsInHand count held hand → IfSome hand (λ e. e < count)
hand_below count held None there = tt
hand_below count held (Some e) there = there.0
