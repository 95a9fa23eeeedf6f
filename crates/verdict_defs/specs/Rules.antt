-- All rules on a block, as rows of a list, in the order in which they are tried. A row has the rule's number and whether the block keeps it
-- (docs/RULES.md, "A block").
use Rattle.std.specs.Prelude.{ℕ, Bool, List, ◌++◌, Option}
use Rattle.chain_defs.specs.Schema.{Block}
use Rattle.chain_defs.specs.First.{first_failing}
use Rattle.chain_defs.specs.Specification.{Specification}
use Rattle.rule_defs.specs.Header.{header_rules}
use Rattle.rule_defs.specs.Body.{body_rules}
use Rattle.rule_defs.specs.FamilyRules.{uncle_and_cellbase_rules, uncle_and_cellbase_rules_over, no_cell}
use Rattle.rule_defs.specs.RewardRules.{end_rules}
use Rattle.verdict_defs.specs.Transactions.{rules_of_transactions}

-- The rules on a block that stands on this branch, genesis to its parent, under the specification of its chain.
unfoldable pub all_rules : Specification → List Block → Block → List (ℕ × Bool)
all_rules spec branch b =
    header_rules spec branch b
    ++ (body_rules spec b ++ (uncle_and_cellbase_rules spec branch b ++ (rules_of_transactions spec branch b ++ end_rules spec branch b)))

-- The first rule that it breaks.
unfoldable pub first_broken : Specification → List Block → Block → Option ℕ
first_broken spec branch b = first_failing (all_rules spec branch b)

-- ---- At sight

-- The rules that ask for no live cell, J4 to J17. Of J17 this is all but that the output of the cellbase is not live.
abbrev pub sight_rules : Specification → List Block → Block → List (ℕ × Bool)
sight_rules spec branch b = header_rules spec branch b ++ (body_rules spec b ++ uncle_and_cellbase_rules_over no_cell spec branch b)

-- The first of these that it breaks.
unfoldable pub broken_at_sight : Specification → List Block → Block → Option ℕ
broken_at_sight spec branch b = first_failing (sight_rules spec branch b)
