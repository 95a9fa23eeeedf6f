use Rattle.std.proofs.Common.{◌≡◌, true, List, take}
use Rattle.std.specs.List.{list_all, enumerate_from}
use Rattle.chain_defs.specs.Schema.{Block}
use Rattle.chain_defs.specs.Branch.{branch}
use Rattle.chain_tree.specs.Blocks.{IndexesBlocks}
use Rattle.uncle_rules.specs.Embedded.{IndexesUncles}
use Rattle.uncle_rules.proofs.RuleLemmas.{is_uncle_at}
use Rattle.uncle_rules.proofs.rule.uncles_ok.Given as goal

-- each of the uncles before the i-th is one
abbrev pub invariant-uncles : goal.invariant-uncles
invariant-uncles l =
    (kept : List Block) → IndexesBlocks kept l.tree.entries → IndexesUncles kept l.uncles
    → list_all (is_uncle_at l.spec (branch kept l.parent) l.block) (take l.i (enumerate_from 0 l.block.uncles)) ≡ true
