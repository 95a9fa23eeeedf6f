use Rattle.std.proofs.Common.{◌≡◌, ℕ, List, take}
use Rattle.std.specs.List.{list_any}
use Rattle.chain_defs.specs.Schema.{Block}
use Rattle.chain_defs.specs.Branch.{branch_places}
use Rattle.chain_tree.specs.Blocks.{IndexesBlocks}
use Rattle.uncle_rules.specs.Linked.{last_of}
use Rattle.uncle_rules.proofs.WalkLemmas.{is_one, left_of}
use Rattle.uncle_rules.proofs.index.Uncles.embeds.Given as goal

-- of the first entries the next is the last with the hash, and if none of these is one, none of all is
abbrev pub invariant-walk : goal.invariant-walk
invariant-walk l =
    (n : ℕ) × (l.next ≡ last_of (take n l.self-inside.entries.items) l.hash)
    × ((kept : List Block) → IndexesBlocks kept l.tree.entries
    → list_any (is_one (branch_places kept l.parent) l.hash l.number) l.self-inside.entries.items
    ≡ list_any (is_one (branch_places kept l.parent) l.hash l.number) (take n l.self-inside.entries.items))

abbrev pub decreases-walk : goal.decreases-walk
decreases-walk l = left_of l.next
