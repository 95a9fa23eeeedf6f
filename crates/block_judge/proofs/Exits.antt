-- What a function's clauses say where it ends in an error.
use Rattle.std.proofs.Common.{◌≡◌, ℕ, Bool, true, false, List, Option, Result, Ok, Err, refl, sym, ap, subst, ◌∙◌}
use Rattle.std.specs.Prelude.{⊤}
use Rattle.outside.specs.declared.disk.Damage.{Damage}
use Rattle.outside.specs.declared.disk.ReadStop.{ReadStop}
use Rattle.outside.specs.declared.disk.ReadStop.TheVariants.{DiskFault, NoMemory, Damaged}
use Rattle.chain_tree.specs.Told.{Stored}
use Rattle.chain_tree.specs.Reading.{Findings, HasRead}
use Rattle.tx_rules.specs.declared.resolving.TxStop.{TxStop}
use Rattle.tx_rules.specs.declared.resolving.TxStop.TheVariants as resolving_stop
use Rattle.tx_rules.specs.Reading as resolving
use Rattle.script_run.specs.declared.stop.ScriptStop.{ScriptStop}
use Rattle.script_run.specs.declared.stop.ScriptStop.TheVariants as running_stop
use Rattle.script_run.specs.Running as running
use Rattle.rule_defs.specs.RuleNumber.{rule_number}
use Rattle.rule_defs.specs.declared.rule.Rule.{Rule}
use Rattle.block_judge.specs.declared.stop.JudgeStop.{JudgeStop}
use Rattle.block_judge.specs.declared.stop.JudgeStop.TheVariants.{Broken, Read}
use Rattle.block_judge.specs.Stops.{of_resolving, AnswersRunning, stop_in}

-- ---- One error is another

abbrev stop_or : {T E : Type 0} → E → Result T E → E
stop_or other (Ok it) = other
stop_or other (Err stop) = stop

abbrev read_or : ReadStop → JudgeStop → ReadStop
read_or other (Broken rule) = other
read_or other (Read stop) = stop

abbrev number_or : ℕ → JudgeStop → ℕ
number_or other (Broken rule) = rule_number rule
number_or other (Read stop) = other

pub same_stop : {T E : Type 0} {stop given : E} → ◌≡◌ {A = Result T E} (Err stop) (Err given) → stop ≡ given
same_stop {stop = stop} same = ap (stop_or stop) same

pub same_rule : {T : Type 0} {rule given : Rule} → ◌≡◌ {A = Result T JudgeStop} (Err (Broken rule)) (Err (Broken given)) → rule_number rule ≡ rule_number given
same_rule {rule = rule} same = ap (number_or (rule_number rule)) (same_stop same)

pub same_read : {T : Type 0} {stop given : ReadStop} → ◌≡◌ {A = Result T JudgeStop} (Err (Read stop)) (Err (Read given)) → stop ≡ given
same_read {stop = stop} same = ap (read_or stop) (same_stop same)

-- an error is that of the step that gave it
pub as_step : {T U E : Type 0} {stop given : E} → ◌≡◌ {A = Result U E} (Err stop) (Err given) → ◌≡◌ {A = Result T E} (Err stop) (Err given)
as_step {T = T} {E = E} same = ap as_error (same_stop same)
  where
    as_error : E → Result T E
    as_error it = Err it

pub as_read : {T U : Type 0} {stop given : ReadStop} → ◌≡◌ {A = Result U JudgeStop} (Err (Read stop)) (Err (Read given)) → ◌≡◌ {A = Result T ReadStop} (Err stop) (Err given)
as_read {T = T} same = ap as_error (same_read same)
  where
    as_error : ReadStop → Result T ReadStop
    as_error it = Err it

-- ---- One is not another

abbrev IsFine : {T E : Type 0} → Result T E → Type 0
IsFine (Ok it) = ⊤
IsFine (Err stop) = ⊥

abbrev IsRead : JudgeStop → Type 0
IsRead (Broken rule) = ⊥
IsRead (Read stop) = ⊤

abbrev IsMemory : ReadStop → Type 0
IsMemory NoMemory = ⊤
IsMemory DiskFault = ⊥
IsMemory (Damaged damage) = ⊥

abbrev IsFalse : Bool → Type 0
IsFalse true = ⊥
IsFalse false = ⊤

-- no answer is an error
pub no_error : {T E : Type 0} {value : T} {stop : E} → ◌≡◌ {A = Result T E} (Ok value) (Err stop) → ⊥
no_error {T = T} {E = E} same = subst (λ (it : Result T E). IsFine it) same tt

-- what could not be read breaks no rule
pub no_rule : {T : Type 0} {stop : ReadStop} {rule : Rule} → ◌≡◌ {A = Result T JudgeStop} (Err (Read stop)) (Err (Broken rule)) → ⊥
no_rule same = subst IsRead (same_stop same) tt

pub no_read : {T : Type 0} {rule : Rule} {stop : ReadStop} → ◌≡◌ {A = Result T JudgeStop} (Err (Broken rule)) (Err (Read stop)) → ⊥
no_read same = subst IsRead (sym (same_stop same)) tt

-- want of memory is no damage
pub not_damage : {damage : Damage} → Damaged damage ≡ NoMemory → ⊥
not_damage same = subst IsMemory (sym same) tt

pub no_damage : {T : Type 0} {damage : Damage} → ◌≡◌ {A = Result T JudgeStop} (Err (Read NoMemory)) (Err (Read (Damaged damage))) → ⊥
no_damage same = not_damage (sym (same_read same))

pub not_both : {test : Bool} → test ≡ true → test ≡ false → ⊥
not_both holds fails = subst IsFalse (sym fails ∙ holds) tt

-- ---- What was read of kept blocks

module _ {S L : Type 0} {tells : S → Option (List Stored)} {counts : S → ℕ} {loans_of : S → L} {faults : S → ℕ} {damages : S → Findings} where
  -- the stop of a step is answered as another that says the same of them
  pub read_as : {old new : S} {stop other : Option ReadStop} → stop ≡ other → HasRead tells counts loans_of faults damages old new stop
      → HasRead tells counts loans_of faults damages old new other
  read_as {old = old} {new = new} same read = subst (λ (it : Option ReadStop). HasRead tells counts loans_of faults damages old new it) same read

pub resolving-stop : (stop : TxStop) (judged : JudgeStop) → judged ≡ of_resolving stop → resolving.read_stop stop ≡ stop_in judged
resolving-stop (resolving_stop.Broken rule) judged is = sym (ap stop_in is)
resolving-stop (resolving_stop.Read stop) judged is = sym (ap stop_in is)

pub running-stop : (stop : ScriptStop) (judged : JudgeStop) → AnswersRunning stop judged → running.read_stop_of (Err stop) ≡ stop_in judged
running-stop (running_stop.Failed failure) (Broken rule) is = refl
running-stop (running_stop.Failed failure) (Read stop) is = absurd is
running-stop (running_stop.Read stop) judged is = sym (ap stop_in is)
