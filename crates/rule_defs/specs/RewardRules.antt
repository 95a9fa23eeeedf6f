-- The rules at the end of a block, J31 and J32, as rows of a list (docs/RULES.md, "A block"). A row has the rule's number and whether the block
-- keeps it.
use Rattle.std.specs.Prelude.{ℕ, Bool, false, List, [], ◌∷◌, Option, Some, None}
use Rattle.std.specs.Str.{bytes_eq}
use Rattle.chain_defs.specs.Schema.{Block}
use Rattle.chain_defs.specs.Specification.{Specification}
use Rattle.chain_defs.specs.Dao.{DaoField, field_bytes}
use Rattle.rule_defs.specs.Field.{next_dao}
use Rattle.rule_defs.specs.Payment.{owed_after, are_owed, cellbase_outputs}

-- J31: the outputs of its cellbase are exactly those that are owed.
unfoldable pub pays_reward : Specification → List Block → Block → Bool
pays_reward spec branch b = are_owed (owed_after spec branch) (cellbase_outputs b)

-- bytes are those of a field that is there
abbrev pub are_bytes_of : Option DaoField → List ℕ → Bool
are_bytes_of None bytes = false
are_bytes_of (Some field) bytes = bytes_eq bytes (field_bytes field)

-- J32: its DAO field is the next one, which is there.
unfoldable pub has_next_dao : Specification → List Block → Block → Bool
has_next_dao spec branch b = are_bytes_of (next_dao spec branch b) b.header.dao

-- on a block that stands on this branch, genesis to its parent, under the specification of its chain
abbrev pub end_rules : Specification → List Block → Block → List (ℕ × Bool)
end_rules spec branch b = (31, pays_reward spec branch b) ∷ (32, has_next_dao spec branch b) ∷ []
