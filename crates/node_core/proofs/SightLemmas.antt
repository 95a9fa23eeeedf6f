-- What a block that passes at sight says of the rules on a header and on a body, and where memory may be wanted.
use Rattle.std.proofs.Common.{◌≡◌, ℕ, List, ◌++◌, Some, None, sym}
use Rattle.chain_defs.specs.Schema.{Block}
use Rattle.chain_defs.specs.First.{first_failing}
use Rattle.chain_defs.specs.Specification.{Specification}
use Rattle.rule_defs.specs.Header.{header_rules}
use Rattle.rule_defs.specs.Body.{body_rules}
use Rattle.rule_defs.specs.FamilyRules.{uncle_and_cellbase_rules_over, no_cell}
use Rattle.verdict_defs.specs.Rules.{broken_at_sight}
use Rattle.chain_defs.specs.Kept.{block_hash, place_of}
use Rattle.chain_defs.specs.Branch.{branch}
use Rattle.block_judge.proofs.SightLemmas.{body-asks, kept-first, kept-later}
use Rattle.verdict_defs.specs.Chain.{Chain}
use Rattle.node_store.specs.Judging.{WantsMemory}

-- ---- The rules on a header and on a body

-- a block that passes at sight breaks none of them
pub header-at-sight : (spec : Specification) (on : List Block) (b : Block) → broken_at_sight spec on b ≡ None → first_failing (header_rules spec on b) ≡ None
unfolding broken_at_sight
header-at-sight spec on b is = kept-first (header_rules spec on b) (body_rules spec b ++ uncle_and_cellbase_rules_over no_cell spec on b) is

-- nor of those on a body
body-at-sight : (spec : Specification) (on : List Block) (b : Block) → broken_at_sight spec on b ≡ None → first_failing (body_rules spec b) ≡ None
unfolding broken_at_sight
body-at-sight spec on b is =
    kept-first (body_rules spec b) (uncle_and_cellbase_rules_over no_cell spec on b)
    (kept-later (header_rules spec on b) (body_rules spec b ++ uncle_and_cellbase_rules_over no_cell spec on b) is)

-- ---- Where memory may be wanted

-- for a block that passes at sight
pub wants-passed : (chain : Chain) (b : Block) (parent : ℕ) → place_of chain.blocks (block_hash b) ≡ None
    → place_of chain.blocks b.header.parent_hash ≡ Some parent → broken_at_sight chain.spec (branch chain.blocks parent) b ≡ None → WantsMemory chain b
wants-passed chain b parent new on passed =
    let asks = body-asks chain.spec b (sym (body-at-sight chain.spec (branch chain.blocks parent) b passed)) in record {
      new = new;
      parent = parent;
      on_kept = on;
      header = header-at-sight chain.spec (branch chain.blocks parent) b passed;
      short = asks.0;
      few = asks.1;
    }
