-- What the stops of the steps on a transaction are answered as, and why kept blocks were not read to a good end.
use Rattle.std.specs.Prelude.{◌≡◌, Option, Some, None, Result, Ok, Err}
use Rattle.outside.specs.declared.disk.ReadStop.{ReadStop}
use Rattle.rule_defs.specs.RuleNumber.{rule_number}
use Rattle.tx_rules.specs.declared.resolving.TxStop.{TxStop}
use Rattle.tx_rules.specs.declared.resolving.TxStop.TheVariants as resolving
use Rattle.verdict_defs.specs.ScriptRules.{rule_of}
use Rattle.script_run.specs.declared.stop.ScriptStop.{ScriptStop}
use Rattle.script_run.specs.declared.stop.ScriptStop.TheVariants as running
use Rattle.block_judge.specs.declared.stop.JudgeStop.{JudgeStop}
use Rattle.block_judge.specs.declared.stop.JudgeStop.TheVariants.{Broken, Read}

abbrev pub of_resolving : TxStop → JudgeStop
of_resolving (resolving.Broken rule) = Broken rule
of_resolving (resolving.Read stop) = Read stop

-- a failure as the rule that it breaks
abbrev pub AnswersRunning : ScriptStop → JudgeStop → Type 0
AnswersRunning (running.Failed failure) (Broken rule) = rule_number rule ≡ rule_of failure
AnswersRunning (running.Failed failure) (Read stop) = ⊥
AnswersRunning (running.Read stop) judged = judged ≡ Read stop

-- why kept blocks were not read to a good end, where they were not: a rule that is broken is no such stop
abbrev pub stop_in : JudgeStop → Option ReadStop
stop_in (Broken rule) = None
stop_in (Read stop) = Some stop

abbrev pub read_stop_of : {T : Type 0} → Result T JudgeStop → Option ReadStop
read_stop_of (Ok value) = None
read_stop_of (Err judged) = stop_in judged
