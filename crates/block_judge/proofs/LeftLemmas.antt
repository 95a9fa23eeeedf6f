-- What comes of a block by the rules that are left of one that has passed at sight: J17, those of its transactions, and the last ones.
use Rattle.std.proofs.Common.{◌≡◌, ℕ, Bool, true, false, List, Option, Some, None, Result, Ok, Err, sym, ap, ◌∙◌, subst}
use Rattle.std.specs.Prelude.{IsOkAnd}
use Rattle.outside.specs.declared.disk.Damage.{Damage}
use Rattle.outside.specs.declared.disk.ReadStop.TheVariants.{Damaged}
use Rattle.chain_defs.specs.Schema.{OutPoint, Block}
use Rattle.chain_defs.specs.First.{first_failing}
use Rattle.chain_defs.specs.Branch.{branch}
use Rattle.chain_tree.specs.Told.{Stored, blocks_of}
use Rattle.chain_defs.specs.Cell.{Cell}
use Rattle.chain_defs.specs.Events.{live_cell}
use Rattle.chain_defs.specs.Ext.{Ext}
use Rattle.rule_defs.specs.Cellbase.{forms_cellbase}
use Rattle.rule_defs.specs.RewardRules.{end_rules}
use Rattle.rule_defs.specs.RuleNumber.{rule_number}
use Rattle.rule_defs.specs.declared.rule.Rule.{Rule}
use Rattle.rule_defs.specs.declared.rule.Rule.TheVariants.{CellbaseForm}
use Rattle.verdict_defs.specs.Ext.{ext_of}
use Rattle.verdict_defs.specs.Transactions.{rules_of_transactions}
use Rattle.verdict_defs.specs.Judged.{judged_transactions, transactions_passed, unless_broken}
use Rattle.verdict_defs.proofs.JudgedLemmas.{passes-by, passes-with}
use Rattle.block_judge.specs.declared.stop.JudgeStop.{JudgeStop}
use Rattle.block_judge.specs.declared.stop.JudgeStop.TheVariants.{Broken, Read}
use Rattle.block_judge.specs.declared.all_transactions.Outcome.{Outcome}
use Rattle.block_judge.specs.Answers.{Answers, IsExt, IsOutcomeOf, JudgesBlock, StopsAs}
use Rattle.block_judge.specs.ByRows.{AgreeOnLive}
use Rattle.block_judge.specs.Progress.{AreMoved}
use Rattle.block_judge.specs.Standing.{ContextValue, ContextStandsForAll, judged_left, rules_left}
use Rattle.block_judge.proofs.AnswerLemmas.{stops-at, stops-within}
use Rattle.block_judge.proofs.SightLemmas.{live-there, passed, first-cellbase, first-transaction, at-end}

module _ (stored : List Stored) (on : ContextValue) (b : Block) (whole : ContextStandsForAll stored on) where
  abbrev over : List Block
  over = branch (blocks_of stored) on.parent

  abbrev its_ext : Ext
  its_ext = ext_of on.spec (blocks_of stored) on.parent b

  judges : (result : Result Ext JudgeStop) → Answers IsExt (judged_left on.spec (blocks_of stored) on.parent b) result → JudgesBlock (blocks_of stored) on b result
  judges result answers = record {
    left = answers;
    all = λ sight. subst (λ (first : Option ℕ). Answers IsExt (unless_broken its_ext first) result) (sym (passed on.spec over b sight)) answers;
  }

  -- J17, where the code answers it over each live cell that the rows may be those of
  form-is : (form : Bool) → ((live : OutPoint → Option Cell) → AgreeOnLive on.rows live → form ≡ forms_cellbase live b) → forms_cellbase (live_cell over) b ≡ form
  form-is form tells = sym (tells (live_cell over) (λ o. live-there (blocks_of stored) on.parent o (on.rows o) (whole.stands.live o)))

  pub judges-formless : ((live : OutPoint → Option Cell) → AgreeOnLive on.rows live → false ≡ forms_cellbase live b)
      → JudgesBlock (blocks_of stored) on b (Err (Broken CellbaseForm))
  judges-formless tells = judges (Err (Broken CellbaseForm)) (ap (unless_broken its_ext) (first-cellbase on.spec over b (form-is false tells)))

  module _ (tells : (live : OutPoint → Option Cell) → AgreeOnLive on.rows live → true ≡ forms_cellbase live b) where
    pub judges-broken : (stop : JudgeStop) → StopsAs (judged_transactions on.spec (blocks_of stored) on.parent b) stop
        → JudgesBlock (blocks_of stored) on b (Err stop)
    judges-broken stop stops =
        judges (Err stop) (stops-within (transactions_passed on.spec (blocks_of stored) on.parent b) its_ext
        (first_failing (rules_of_transactions on.spec over b)) (first_failing (rules_left on.spec over b)) stop
        (λ rule. first-transaction on.spec over b rule (form-is true tells)) stops)

    -- after transactions that pass
    module _ (outcome : Outcome) (passes : IsOkAnd (judged_transactions on.spec (blocks_of stored) on.parent b) (λ is. IsOutcomeOf is outcome)) where
      by : (first_failing (rules_of_transactions on.spec over b) ≡ None) × IsOutcomeOf (transactions_passed on.spec (blocks_of stored) on.parent b) outcome
      by = passes-by (transactions_passed on.spec (blocks_of stored) on.parent b) (first_failing (rules_of_transactions on.spec over b)) (λ is. IsOutcomeOf is outcome) passes

      moved : AreMoved on.spec over b outcome.interest outcome.freed
      moved = record { interest_is = by.1.interest_is; freed_is = by.1.freed_is }

      pub judges-ended : (stop : JudgeStop) → (AreMoved on.spec over b outcome.interest outcome.freed → (rule : Rule) → stop ≡ Broken rule
          → first_failing (end_rules on.spec over b) ≡ Some (rule_number rule)) → ((damage : Damage) → stop ≡ Read (Damaged damage) → ⊥)
          → JudgesBlock (blocks_of stored) on b (Err stop)
      judges-ended stop breaks none =
          judges (Err stop) (stops-at its_ext (first_failing (rules_left on.spec over b)) stop
          (λ rule same. at-end on.spec over b (form-is true tells) by.0 ∙ breaks moved rule same) none)

      pub judges-passed : (AreMoved on.spec over b outcome.interest outcome.freed → first_failing (end_rules on.spec over b) ≡ None)
          → JudgesBlock (blocks_of stored) on b (Ok outcome.ext)
      judges-passed unbroken =
          judges (Ok outcome.ext) (passes-with its_ext (first_failing (rules_left on.spec over b)) (λ is. IsExt is outcome.ext)
          (at-end on.spec over b (form-is true tells) by.0 ∙ unbroken moved) by.1.ext_is)
