-- The rules on the transactions of a block after its cellbase, J18 to J30, by transaction and then by number (docs/RULES.md, "A block").
use Rattle.std.specs.Prelude.{ℕ, suc, ◌-◌, Bool, List, [], ◌∷◌, ◌++◌, length, drop, is_some}
use Rattle.chain_defs.specs.Schema.{Transaction, Block}
use Rattle.chain_defs.specs.Specification.{Specification}
use Rattle.chain_defs.specs.Hashes.{proposal_id}
use Rattle.rule_defs.specs.Window.{earliest}
use Rattle.rule_defs.specs.Site.{Site, site_at}
use Rattle.rule_defs.specs.TransactionRules.{form_rules, cell_rules}
use Rattle.verdict_defs.specs.Scene.{scene_of}
use Rattle.verdict_defs.specs.ScriptRules.{script_rules, cycles_of}

-- J19: its id is proposed in the window of its height, by a block of the branch or an uncle of one (RFC 0020, "Two-Step Transaction
-- Confirmation").
abbrev pub is_proposed : Specification → List Block → Transaction → Bool
is_proposed spec branch t = is_some (earliest spec branch (proposal_id t) (length branch))

-- The rules on one transaction at its site, within the cycles that are left.
abbrev pub transaction_rules : Site → ℕ → Transaction → List (ℕ × Bool)
transaction_rules site left t =
    form_rules t ++ (19, is_proposed site.spec site.branch t) ∷ cell_rules site t ++ script_rules (scene_of site t) left

-- what one transaction leaves of the cycles
abbrev pub left_after : Site → ℕ → Transaction → ℕ
left_after site left t = left - cycles_of (scene_of site t) left

-- those of a block from a place on
unfoldable pub rules_from : Specification → List Block → Block → ℕ → ℕ → List Transaction → List (ℕ × Bool)
rules_from spec branch b place left [] = []
rules_from spec branch b place left (t ∷ later) =
    transaction_rules (site_at spec branch b place) left t
    ++ rules_from spec branch b (suc place) (left_after (site_at spec branch b place) left t) later

-- All transactions share the cycles of a block; the cellbase takes none.
abbrev pub rules_of_transactions : Specification → List Block → Block → List (ℕ × Bool)
rules_of_transactions spec branch b = rules_from spec branch b 1 spec.max_cycles (drop 1 b.transactions)
