-- What comes of the scripts of a transaction within so many cycles (docs/RULES.md, "Script groups").
use Rattle.std.specs.Prelude.{ℕ, zero, suc, ◌+◌, ◌-◌, nat_lt, ℤ, pos, negsuc, List, [], ◌∷◌, Option, Some, None, Result, Ok, Err, if◌then◌else◌}
use Rattle.machine_defs.specs.declared.outcome.Outcome.{Outcome}
use Rattle.machine_defs.specs.declared.outcome.Outcome.TheVariants as outcome
use Rattle.machine_defs.specs.Program.{Execution, execution}
use Rattle.machine_defs.specs.Answer.{syscall}
use Rattle.verdict_defs.specs.declared.failure.Failure.{Failure}
use Rattle.verdict_defs.specs.declared.failure.Failure.TheVariants as failure
use Rattle.verdict_defs.specs.Scene.{Scene}
use Rattle.verdict_defs.specs.Groups.{Group, groups_of}
use Rattle.verdict_defs.specs.Codes.{Code, NoCode, ManyCodes, Is, code_of, is_type_id}
use Rattle.verdict_defs.specs.Items.{items}
use Rattle.verdict_defs.specs.TypeId.{type_id_cycles, type_id_exit}

-- ---- The code of each group is looked for before any runs

abbrev pub lacks_code : ℕ → Code → Option Failure
lacks_code place NoCode = Some (failure.NoCode place)
lacks_code place ManyCodes = Some (failure.ManyCodes place)
lacks_code place (Is code) = None

-- of TYPE_ID no code is looked for
abbrev pub has_no_code : Scene → ℕ → Group → Option Failure
has_no_code scene place group = if is_type_id group.script then None else lacks_code place (code_of scene.second scene.deps group.script)

abbrev pub or_later : Option Failure → Option Failure → Option Failure
or_later (Some f) later = Some f
or_later None later = later

-- the first group whose code is not found, of those from a place on
unfoldable pub first_without_code : Scene → ℕ → List Group → Option Failure
first_without_code scene place [] = None
first_without_code scene place (group ∷ later) = or_later (has_no_code scene place group) (first_without_code scene (suc place) later)

-- ---- One group: the cycles that it takes, or why it fails

-- how its program ended
abbrev pub exited : ℕ → ℤ → ℕ → Result ℕ Failure
exited place (pos zero) cycles = Ok cycles
exited place (pos (suc n)) cycles = Err (failure.ExitNot0 place (pos (suc n)))
exited place (negsuc n) cycles = Err (failure.ExitNot0 place (negsuc n))

abbrev pub ended : ℕ → Outcome → ℕ → Result ℕ Failure
ended place (outcome.Exit code) cycles = exited place code cycles
ended place (outcome.Fault number) cycles = Err (failure.MachineFault place number)
ended place outcome.Spent cycles = Err failure.Spent

abbrev pub executed : ℕ → Execution → Result ℕ Failure
executed place (Ok it) = ended place it.0 it.1
executed place (Err condition) = Err (failure.BadElf place condition)

-- Its program runs with the syscalls over what the group is shown.
abbrev pub run_code : Scene → ℕ → ℕ → Group → Code → Result ℕ Failure
run_code scene left place group NoCode = Err (failure.NoCode place)
run_code scene left place group ManyCodes = Err (failure.ManyCodes place)
run_code scene left place group (Is code) = executed place (execution (syscall (items scene group)) left code)

abbrev pub run_type_id : Scene → ℕ → ℕ → Group → Result ℕ Failure
run_type_id scene left place group =
    if nat_lt left type_id_cycles then Err failure.Spent else exited place (type_id_exit scene group) type_id_cycles

-- within the cycles that are left
unfoldable pub run_group : Scene → ℕ → ℕ → Group → Result ℕ Failure
run_group scene left place group =
    if is_type_id group.script then run_type_id scene left place group
    else run_code scene left place group (code_of scene.second scene.deps group.script)

-- ---- All groups, one after the other: the cycles that they take, or why the first that fails does

abbrev pub with_cycles : ℕ → Result ℕ Failure → Result ℕ Failure
with_cycles used (Ok later) = Ok (used + later)
with_cycles used (Err f) = Err f

abbrev pub followed_by : (ℕ → Result ℕ Failure) → Result ℕ Failure → Result ℕ Failure
followed_by later (Ok used) = with_cycles used (later used)
followed_by later (Err f) = Err f

-- those from a place on, each within what those before it left
unfoldable pub run_from : Scene → ℕ → ℕ → List Group → Result ℕ Failure
run_from scene left place [] = Ok 0
run_from scene left place (group ∷ later) =
    followed_by (λ used. run_from scene (left - used) (suc place) later) (run_group scene left place group)

abbrev pub unless : Option Failure → Result ℕ Failure → Result ℕ Failure
unless (Some f) result = Err f
unless None result = result

-- What comes of a transaction's scripts within so many cycles: those that they take, or why they fail.
unfoldable pub outcome_of : Scene → ℕ → Result ℕ Failure
outcome_of scene left = unless (first_without_code scene 0 (groups_of scene)) (run_from scene left 0 (groups_of scene))
