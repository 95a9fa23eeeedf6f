-- What comes of what is judged, as one value: what it passes with, or the first rule that it breaks (docs/RULES.md, "A block").
use Rattle.std.specs.Prelude.{ℕ, ℤ, Bool, List, ◌∷◌, ◌++◌, drop, Option, Some, None, Result, Ok, Err}
use Rattle.chain_defs.specs.Schema.{Transaction, Block}
use Rattle.chain_defs.specs.Specification.{Specification}
use Rattle.chain_defs.specs.First.{first_failing}
use Rattle.chain_defs.specs.Branch.{branch}
use Rattle.chain_defs.specs.Ext.{Ext}
use Rattle.rule_defs.specs.Site.{Site, Found}
use Rattle.rule_defs.specs.Resolving.{inputs}
use Rattle.rule_defs.specs.Capacity as capacity
use Rattle.rule_defs.specs.Field.{freed_by, freed_from, interest_from}
use Rattle.rule_defs.specs.TransactionRules.{form_rules, cell_rules}
use Rattle.verdict_defs.specs.Scene.{scene_of}
use Rattle.verdict_defs.specs.ScriptRules.{script_rules, cycles_of}
use Rattle.verdict_defs.specs.Transactions.{is_proposed, rules_of_transactions}
use Rattle.verdict_defs.specs.Ext.{ext_of}
use Rattle.verdict_defs.specs.Rules.{first_broken}

-- by the first rule that is broken, where one is
abbrev pub unless_broken : {V : Type 0} → V → Option ℕ → Result V ℕ
unless_broken passed (Some rule) = Err rule
unless_broken passed None = Ok passed

-- ---- A transaction

-- What it passes with: in shannons its fee, the interest that it withdraws and what the cells occupy that it spends; the cycles that its scripts
-- take; and the cells of its inputs.
pub record Passed : Type 0 where
  pub fee : ℕ
  pub interest : ℤ
  pub freed : ℕ
  pub cycles : ℕ
  pub spent : List Found

abbrev pub passed_at : Site → ℕ → Transaction → Passed
passed_at site left t = record {
  fee = capacity.fee site t;
  interest = capacity.interest site t;
  freed = freed_by site t;
  cycles = cycles_of (scene_of site t) left;
  spent = inputs site t;
}

-- By J18 to J30, at its site and within the cycles that are left, where it is said whether its id is proposed (J19).
unfoldable pub judged_where : Bool → Site → ℕ → Transaction → Result Passed ℕ
judged_where proposed site left t =
    unless_broken (passed_at site left t) (first_failing (form_rules t ++ (19, proposed) ∷ cell_rules site t ++ script_rules (scene_of site t) left))

-- as one of a block
abbrev pub judged : Site → ℕ → Transaction → Result Passed ℕ
judged site left t = judged_where (is_proposed site.spec site.branch t) site left t

-- and where no proposal is asked for
unfoldable pub judged_alone : Site → ℕ → Transaction → Result Passed ℕ
judged_alone site left t =
    unless_broken (passed_at site left t) (first_failing (form_rules t ++ (cell_rules site t ++ script_rules (scene_of site t) left)))

-- ---- A block, over the kept blocks, on the parent at a place

-- What its transactions after the cellbase come to: its ext, the interest that they withdraw and what all cells occupy that they spend, in shannons.
pub record PassedTransactions : Type 0 where
  pub ext : Ext
  pub interest : ℤ
  pub freed : ℕ

abbrev pub transactions_passed : Specification → List Block → ℕ → Block → PassedTransactions
transactions_passed spec kept parent b = record {
  ext = ext_of spec kept parent b;
  interest = interest_from spec (branch kept parent) b 1 (drop 1 b.transactions);
  freed = freed_from spec (branch kept parent) b 1 (drop 1 b.transactions);
}

-- These by J18 to J30.
abbrev pub judged_transactions : Specification → List Block → ℕ → Block → Result PassedTransactions ℕ
judged_transactions spec kept parent b =
    unless_broken (transactions_passed spec kept parent b) (first_failing (rules_of_transactions spec (branch kept parent) b))

-- The block by all rules on one, J4 to J32: its ext.
abbrev pub judged_block : Specification → List Block → ℕ → Block → Result Ext ℕ
judged_block spec kept parent b = unless_broken (ext_of spec kept parent b) (first_broken spec (branch kept parent) b)
