-- The rules on a block's uncles and on its cellbase, J15 to J17, as rows of a list (docs/RULES.md, "A block"). A row has the rule's number
-- and whether the block keeps it.
use Rattle.std.specs.Prelude.{ℕ, Bool, List, [], ◌∷◌, Option, None}
use Rattle.chain_defs.specs.Schema.{OutPoint, Block}
use Rattle.chain_defs.specs.Specification.{Specification}
use Rattle.chain_defs.specs.Cell.{Cell}
use Rattle.chain_defs.specs.Events.{live_cell}
use Rattle.rule_defs.specs.Uncles.{has_uncles}
use Rattle.rule_defs.specs.Cellbase.{has_cellbase, forms_cellbase}

-- The rules on a block that stands on this branch, genesis to its parent, under the specification of its chain, where these cells are live.
abbrev pub uncle_and_cellbase_rules_over : (OutPoint → Option Cell) → Specification → List Block → Block → List (ℕ × Bool)
uncle_and_cellbase_rules_over live spec branch b = (15, has_uncles spec branch b) ∷ (16, has_cellbase b) ∷ (17, forms_cellbase live b) ∷ []

-- The same over the live cells of the branch.
abbrev pub uncle_and_cellbase_rules : Specification → List Block → Block → List (ℕ × Bool)
uncle_and_cellbase_rules spec branch b = uncle_and_cellbase_rules_over (live_cell branch) spec branch b

-- no cell is live
abbrev pub no_cell : OutPoint → Option Cell
no_cell o = None
