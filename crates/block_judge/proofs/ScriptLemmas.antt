-- What comes of the scripts of a transaction, by the rules on them.
use Rattle.std.proofs.Common.{◌≡◌, ◌≤◌, ℕ, Bool, List, [], ◌∷◌, Some, None, Result, Ok, Err, refl, sym, ap, ◌∙◌, arith}
use Rattle.std.specs.Prelude.{IsOkAnd}
use Rattle.chain_defs.specs.First.{first_failing}
use Rattle.outside.specs.declared.disk.Damage.{Damage}
use Rattle.outside.specs.declared.disk.ReadStop.TheVariants.{Damaged}
use Rattle.verdict_defs.specs.declared.failure.Failure.{Failure}
use Rattle.verdict_defs.specs.declared.failure.Failure.TheVariants.{NoCode, ManyCodes, BadElf, MachineFault, ExitNot0, Spent}
use Rattle.verdict_defs.specs.Scene.{Scene}
use Rattle.verdict_defs.specs.Outcome.{outcome_of}
use Rattle.verdict_defs.specs.ScriptRules.{rule_of, keeps, script_rules, cycles_in, cycles_of}
use Rattle.verdict_defs.specs.Judged.{unless_broken}
use Rattle.verdict_defs.proofs.JudgedLemmas.{passes-with}
use Rattle.script_run.specs.declared.stop.ScriptStop.{ScriptStop}
use Rattle.script_run.specs.declared.stop.ScriptStop.TheVariants as running
use Rattle.script_run.specs.Running.{IsOutcome}
use Rattle.rule_defs.specs.RuleNumber.{rule_number}
use Rattle.rule_defs.specs.declared.rule.Rule.{Rule}
use Rattle.block_judge.specs.declared.stop.JudgeStop.{JudgeStop}
use Rattle.block_judge.specs.declared.stop.JudgeStop.TheVariants.{Broken, Read}
use Rattle.block_judge.specs.Answers.{AreCycles, StopsAs, judged_scripts}
use Rattle.block_judge.specs.Standing.{IsScriptRule}
use Rattle.block_judge.specs.Stops.{AnswersRunning}
use Rattle.block_judge.proofs.AnswerLemmas.{stops-at}

-- the rules of an outcome
abbrev rules_of : Result ℕ Failure → List (ℕ × Bool)
rules_of outcome = (28, keeps 28 outcome) ∷ (29, keeps 29 outcome) ∷ (30, keeps 30 outcome) ∷ []

none-fails : (cycles : ℕ) → first_failing (rules_of (Ok cycles)) ≡ None
unfolding first_failing
none-fails cycles = refl

its-rule-fails : (f : Failure) → first_failing (rules_of (Err f)) ≡ Some (rule_of f)
unfolding first_failing
its-rule-fails (NoCode group) = refl
its-rule-fails (ManyCodes group) = refl
its-rule-fails (BadElf group condition) = refl
its-rule-fails (MachineFault group number) = refl
its-rule-fails (ExitNot0 group code) = refl
its-rule-fails Spent = refl

-- scripts that took cycles keep the rules
pub scripts-keep : (scene : Scene) (left cycles : ℕ) → outcome_of scene left ≡ Ok cycles → IsOkAnd (judged_scripts scene left) (λ taken. AreCycles taken cycles)
scripts-keep scene left cycles is =
    passes-with (cycles_of scene left) (first_failing (script_rules scene left)) (λ taken. AreCycles taken cycles)
    (ap (λ (outcome : Result ℕ Failure). first_failing (rules_of outcome)) is ∙ none-fails cycles) (sym (ap cycles_in is))

-- those that fail break the rule of their failure first
pub scripts-stop : (scene : Scene) (left : ℕ) (stop : ScriptStop) (judged : JudgeStop) → IsOutcome (outcome_of scene left) (Err stop)
    → ((damage : Damage) → stop ≡ running.Read (Damaged damage) → ⊥) → AnswersRunning stop judged → StopsAs (judged_scripts scene left) judged
scripts-stop scene left (running.Failed f) (Broken rule) is none answers =
    ap (unless_broken (cycles_of scene left))
    (ap (λ (outcome : Result ℕ Failure). first_failing (rules_of outcome)) is ∙ its-rule-fails f ∙ ap Some (sym answers))
scripts-stop scene left (running.Failed f) (Read stop) is none answers = absurd answers
scripts-stop scene left (running.Read stop) judged is none answers =
    stops-at (cycles_of scene left) (first_failing (script_rules scene left)) judged (λ rule same. absurd (unbroken rule same))
    (λ damage same. none damage (ap running.Read (its damage same)))
  where
    unbroken : (rule : Rule) → judged ≡ Broken rule → ⊥
    unbroken rule same = absurd (cc)

    its : (damage : Damage) → judged ≡ Read (Damaged damage) → stop ≡ Damaged damage
    its damage same = cc

-- the rules that are tried
pub script-rule : (stop : ScriptStop) (rule : Rule) → AnswersRunning stop (Broken rule) → IsScriptRule (rule_number rule)
script-rule (running.Failed f) rule is = let its = one_of f in (omega (arith, is, its.0), omega (arith, is, its.1))
  where
    one_of : (failure : Failure) → (28 ≤ rule_of failure) × (rule_of failure ≤ 30)
    one_of (NoCode group) = (omega arith, omega arith)
    one_of (ManyCodes group) = (omega arith, omega arith)
    one_of (BadElf group condition) = (omega arith, omega arith)
    one_of (MachineFault group number) = (omega arith, omega arith)
    one_of (ExitNot0 group code) = (omega arith, omega arith)
    one_of Spent = (omega arith, omega arith)
script-rule (running.Read stop) rule is = absurd (cc)
