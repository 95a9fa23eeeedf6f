-- What imports leave that are begun again, each with the first item of one list (docs/COMMANDS.md, "soak").
use Rattle.std.specs.Prelude.{◌≡◌, ℕ, ◌+◌, List, [], ◌∷◌, length, take, max, Some}
use Rattle.std.specs.List.{filter, AllByRecursion}
use Rattle.chain_defs.specs.Shape.{decoded}
use Rattle.chain_defs.specs.Schema.{Block, block}
use Rattle.chain_defs.specs.Kept.{block_hash}
use Rattle.verdict_defs.specs.Verdict.{joins}
use Rattle.verdict_defs.specs.Chain.{Chain, verdicts_over, chain_over}
use Rattle.report_defs.specs.Simulation.{HashesDiffer, generated_items}

-- none of these items is a block with this hash
abbrev pub NoneHasHash : List ℕ → List (List ℕ) → Type 0
NoneHasHash hash items = AllByRecursion (λ item. (b : Block) → decoded block item ≡ Some b → block_hash b ≡ hash → ⊥) items

-- No item names itself or a later one as its parent.
abbrev pub NamesNoLater : List (List ℕ) → Type 0
NamesNoLater [] = Unit {0}
NamesNoLater (item ∷ later) = ((b : Block) → decoded block item ≡ Some b → NoneHasHash b.header.parent_hash (item ∷ later)) × NamesNoLater later

-- Law: of such a list an import of a prefix over what an import of a prefix left comes to one import of the longer of the two. A block that was refused
-- is refused again: it is judged over the same branch, or its parent is still missing.
abbrev pub PrefixesReplay : Type 0
PrefixesReplay = (chain : Chain) (items : List (List ℕ)) (j k : ℕ) → NamesNoLater items
    → chain_over (chain_over chain (take j items)) (take k items) ≡ chain_over chain (take (max j k) items)

-- Law: the blocks of a seed are such a list where their hashes and that of the genesis all differ.
abbrev pub GeneratedNameNoLater : Type 0
GeneratedNameNoLater = (seed count : ℕ) → HashesDiffer seed count → NamesNoLater (generated_items seed count)

-- Law: after an import as many blocks are kept more as items joined.
abbrev pub JoinedAreCounted : Type 0
JoinedAreCounted = (chain : Chain) (items : List (List ℕ)) → length (chain_over chain items).blocks ≡ length chain.blocks + length (filter joins (verdicts_over chain items))
