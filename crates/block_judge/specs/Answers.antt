-- What a judge answers, beside what comes of what is judged by the definitions.
use Rattle.std.specs.Prelude.{◌≡◌, ⊤, ℕ, ◌+◌, ◌-◌, ◌<◌, ◌≤◌, ◌^◌, ◌+ℤ◌, nat_abs, nat_lt, List, [], ◌∷◌, ◌++◌, map, Result, Ok, Err, IsOkAnd}
use Rattle.std.specs.List.{filter, filter_map}
use Rattle.outside.specs.declared.disk.ReadStop.TheVariants.{DiskFault, NoMemory, Damaged}
use Rattle.chain_defs.specs.Schema.{Block}
use Rattle.chain_defs.specs.First.{first_failing}
use Rattle.chain_defs.specs.Ext.{Ext}
use Rattle.tx_rules.specs.At.{found_row}
use Rattle.tx_rules.specs.Copying.{row_in}
use Rattle.rule_defs.specs.Site.{Site}
use Rattle.rule_defs.specs.RuleNumber.{rule_number}
use Rattle.verdict_defs.specs.Ext.{row_before}
use Rattle.verdict_defs.specs.Scene.{Scene}
use Rattle.verdict_defs.specs.ScriptRules.{script_rules, cycles_of}
use Rattle.verdict_defs.specs.Judged.{Passed, PassedTransactions, judged_block, unless_broken}
use Rattle.block_judge.specs.declared.stop.JudgeStop.{JudgeStop}
use Rattle.block_judge.specs.declared.stop.JudgeStop.TheVariants.{Broken, Read}
use Rattle.block_judge.specs.declared.transactions.PassedTransaction.{PassedTransaction}
use Rattle.block_judge.specs.declared.all_transactions.Outcome.{Outcome}
use Rattle.block_judge.specs.declared.all_transactions.Progress.{Progress}
use Rattle.block_judge.specs.Standing.{ContextValue, PassesAtSight, judged_left}

-- Over kept blocks that are known it stops at the first rule that is broken. A fault of the disk and want of memory are no answer, and nothing is
-- damaged.
abbrev pub StopsAs : {V : Type 0} → Result V ℕ → JudgeStop → Type 0
StopsAs judged (Broken rule) = judged ≡ Err (rule_number rule)
StopsAs judged (Read DiskFault) = ⊤
StopsAs judged (Read NoMemory) = ⊤
StopsAs judged (Read (Damaged damage)) = ⊥

-- It stops so, or answers something that is so of what passes.
abbrev pub Answers : {V T : Type 0} → (V → T → Type 0) → Result V ℕ → Result T JudgeStop → Type 0
Answers is judged (Ok answer) = IsOkAnd judged (λ passed. is passed answer)
Answers is judged (Err stop) = StopsAs judged stop

-- ---- A transaction

-- what one passes with, of the cells of its inputs their rows
pub record IsPassed (kept : List Block) (parent : ℕ) (is : Passed) (passed : PassedTransaction) : Type 0 where
  pub fee_is : passed.fee ≡ is.fee
  pub interest_is : passed.interest ≡ is.interest
  pub freed_is : passed.freed ≡ is.freed
  pub cycles_are : passed.cycles ≡ is.cycles
  pub rows_are : map row_in passed.inputs.items ≡ map (found_row kept parent) is.spent

-- the fee and the cycles alone
pub record PaysAndTakes (is : Passed) (answer : ℕ × ℕ) : Type 0 where
  pub fee_is : answer.0 ≡ is.fee
  pub cycles_are : answer.1 ≡ is.cycles

-- what it passes with fits, within the cycles that are left
pub record FitsWithin (left : ℕ) (passed : PassedTransaction) : Type 0 where
  pub within : passed.cycles ≤ left
  pub interest_fits : nat_abs passed.interest < 2 ^ 96
  pub freed_fits : passed.freed < 2 ^ 96

-- its scripts alone, by J28 to J30
abbrev pub judged_scripts : Scene → ℕ → Result ℕ ℕ
judged_scripts scene left = unless_broken (cycles_of scene left) (first_failing (script_rules scene left))

abbrev pub AreCycles : ℕ → ℕ → Type 0
AreCycles cycles answer = answer ≡ cycles

-- ---- One transaction more of a block

-- What was answered of it is taken: a fee and the rows of its inputs below the block's place to the ext, what it moves to what was moved, and its
-- cycles from those that are left.
pub record AddsAnswered {C : Type 0} (e : ℕ) (passed : PassedTransaction) (old new : Progress C) : Type 0 where
  pub left_is : new.left ≡ old.left - passed.cycles
  pub fees_are : new.ext.fees ≡ old.ext.fees ++ passed.fee ∷ []
  pub rows_are : new.ext.spent ≡ old.ext.spent ++ filter (λ it. nat_lt it.1.block e) (map row_in passed.inputs.items)
  pub interest_is : new.interest ≡ old.interest +ℤ passed.interest
  pub freed_is : new.freed ≡ old.freed + passed.freed

-- the same by what it passes with: of the cells of its inputs, those that blocks before made
pub record AddsJudged {C : Type 0} (kept : List Block) (parent : ℕ) (site : Site) (is : Passed) (old new : Progress C) : Type 0 where
  pub left_is : new.left ≡ old.left - is.cycles
  pub fees_are : new.ext.fees ≡ old.ext.fees ++ is.fee ∷ []
  pub rows_are : new.ext.spent ≡ old.ext.spent ++ filter_map (row_before kept parent site) is.spent
  pub interest_is : new.interest ≡ old.interest +ℤ is.interest
  pub freed_is : new.freed ≡ old.freed + is.freed

-- ---- A block

-- what its transactions come to
pub record IsOutcomeOf (is : PassedTransactions) (outcome : Outcome) : Type 0 where
  pub ext_is : outcome.ext ≡ is.ext
  pub interest_is : outcome.interest ≡ is.interest
  pub freed_is : outcome.freed ≡ is.freed

-- its ext
abbrev pub IsExt : Ext → Ext → Type 0
IsExt is ext = ext ≡ is

-- What comes of one that is judged after it was at sight: by the rules that are left, and where it has passed, by all.
pub record JudgesBlock (kept : List Block) (on : ContextValue) (b : Block) (result : Result Ext JudgeStop) : Type 0 where
  pub left : Answers IsExt (judged_left on.spec kept on.parent b) result
  pub all : PassesAtSight kept on b → Answers IsExt (judged_block on.spec kept on.parent b) result
