-- What is answered of what is judged, handed on from step to step.
use Rattle.std.proofs.Common.{◌≡◌, ℕ, List, Option, Some, Result, Ok, Err, refl, ap}
use Rattle.std.specs.Prelude.{IsOkAnd}
use Rattle.chain_defs.specs.Schema.{Block}
use Rattle.outside.specs.declared.disk.Damage.{Damage}
use Rattle.outside.specs.declared.disk.ReadStop.{ReadStop}
use Rattle.outside.specs.declared.disk.ReadStop.TheVariants.{DiskFault, NoMemory, Damaged}
use Rattle.rule_defs.specs.RuleNumber.{rule_number}
use Rattle.rule_defs.specs.declared.rule.Rule.{Rule}
use Rattle.verdict_defs.specs.Judged.{Passed, unless_broken}
use Rattle.verdict_defs.proofs.JudgedLemmas.{first-of-broken}
use Rattle.block_judge.specs.declared.stop.JudgeStop.{JudgeStop}
use Rattle.block_judge.specs.declared.stop.JudgeStop.TheVariants.{Broken, Read}
use Rattle.block_judge.specs.declared.transactions.PassedTransaction.{PassedTransaction}
use Rattle.block_judge.specs.Answers.{IsPassed, PaysAndTakes, StopsAs}

-- at the first rule that is broken, and at no damage
pub stops-at : {V : Type 0} (passed : V) (first : Option ℕ) (stop : JudgeStop) → ((rule : Rule) → stop ≡ Broken rule → first ≡ Some (rule_number rule))
    → ((damage : Damage) → stop ≡ Read (Damaged damage) → ⊥) → StopsAs (unless_broken passed first) stop
stops-at passed first (Broken rule) breaks none = ap (unless_broken passed) (breaks rule refl)
stops-at passed first (Read DiskFault) breaks none = tt
stops-at passed first (Read NoMemory) breaks none = tt
stops-at passed first (Read (Damaged damage)) breaks none = none damage refl

-- at what could not be read, but at no damage
pub stops-read : {V : Type 0} (judged : Result V ℕ) (stop : ReadStop) → ((damage : Damage) → stop ≡ Damaged damage → ⊥) → StopsAs judged (Read stop)
stops-read judged DiskFault none = tt
stops-read judged NoMemory none = tt
stops-read judged (Damaged damage) none = none damage refl

-- a stop of a step is one of the whole, where what the step breaks first is what the whole does
pub stops-within : {V W : Type 0} (step : V) (whole : W) (first of_whole : Option ℕ) (stop : JudgeStop) → ((rule : ℕ) → first ≡ Some rule → of_whole ≡ Some rule)
    → StopsAs (unless_broken step first) stop → StopsAs (unless_broken whole of_whole) stop
stops-within step whole first of_whole (Broken rule) breaks stops = ap (unless_broken whole) (breaks (rule_number rule) (first-of-broken step first (rule_number rule) stops))
stops-within step whole first of_whole (Read DiskFault) breaks stops = tt
stops-within step whole first of_whole (Read NoMemory) breaks stops = tt
stops-within step whole first of_whole (Read (Damaged damage)) breaks stops = stops

-- what passes, by its fee and its cycles
pub pays-and-takes : (kept : List Block) (parent : ℕ) (judged : Result Passed ℕ) (passed : PassedTransaction) → IsOkAnd judged (λ is. IsPassed kept parent is passed)
    → IsOkAnd judged (λ is. PaysAndTakes is (passed.fee, passed.cycles))
pays-and-takes kept parent (Ok is) passed same = record { fee_is = same.fee_is; cycles_are = same.cycles_are }
pays-and-takes kept parent (Err rule) passed same = absurd same
