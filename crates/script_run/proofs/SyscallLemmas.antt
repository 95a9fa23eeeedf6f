-- What a script is answered, by the number of the syscall.
use Rattle.std.proofs.Common.{◌≡◌, ℕ, Bool, true, false, List, [], ◌∷◌, Some, refl, sym, ap, ◌∙◌, eqb, cond}
use Rattle.std.specs.Prelude.{◌==◌}
use Rattle.std.specs.Option.{option_map}
use Rattle.std.specs.List.{find}
use Rattle.std.proofs.lemmas.Bool.{eqb-true, ne_eqb}
use Rattle.chain_defs.specs.Shape.{encoded}
use Rattle.chain_defs.specs.Schema.{header, script, transaction}
use Rattle.chain_defs.specs.Cell.{script_hash}
use Rattle.chain_defs.specs.Hashes.{transaction_hash}
use Rattle.machine_defs.specs.SyscallTable.{Syscall, syscalls, row}
use Rattle.machine_defs.specs.SyscallTable as table
use Rattle.machine_defs.specs.World.{Call, Here, Unknown}
use Rattle.verdict_defs.specs.Scene.{Scene}
use Rattle.verdict_defs.specs.Groups.{Group}
use Rattle.verdict_defs.specs.Items.{cell_at, cell_fields, field, header_at, header_fields, input_at, input_fields, item_of_row, items, listed, whole, witness_at}
use Rattle.script_run.specs.declared.bytes.CellPart.TheVariants.{Output, Data}
use Rattle.script_run.specs.declared.bytes.InputPart.TheVariants.{Whole}
use Rattle.script_run.specs.Lookups.{cell_part, input_part, items_of}
use Rattle.script_run.specs.Shown.{GroupValue, HasItsHash}

at-number : (scene : Scene) (it : GroupValue) (call : Call) (n : ℕ) → call.number ≡ n
    → items_of scene it call ≡ items_of scene it (record { number = n; index = call.index; source = call.source; field = call.field })
at-number scene it call n is = ap (λ (number : ℕ). items_of scene it (record { number = number; index = call.index; source = call.source; field = call.field })) is

pub at-2051 : (scene : Scene) (it : GroupValue) (call : Call) → call.number ≡ 2051 → items_of scene it call ≡ Here (encoded transaction scene.transaction)
unfolding items syscalls
at-2051 scene it call is = at-number scene it call 2051 is

pub at-2052 : (scene : Scene) (it : GroupValue) (call : Call) → call.number ≡ 2052 → items_of scene it call ≡ Here (encoded script it.group.script)
unfolding items syscalls
at-2052 scene it call is = at-number scene it call 2052 is

pub at-2061 : (scene : Scene) (it : GroupValue) (call : Call) → call.number ≡ 2061 → items_of scene it call ≡ Here (transaction_hash scene.transaction)
unfolding items syscalls
at-2061 scene it call is = at-number scene it call 2061 is

pub at-2062 : (scene : Scene) (it : GroupValue) (call : Call) → call.number ≡ 2062 → items_of scene it call ≡ Here it.hash
unfolding items syscalls
at-2062 scene it call is = at-number scene it call 2062 is

pub at-2071 : (scene : Scene) (it : GroupValue) (call : Call) → call.number ≡ 2071 → items_of scene it call ≡ listed it.group call (cell_at scene) (option_map cell_part (Some Output))
unfolding items syscalls
at-2071 scene it call is = at-number scene it call 2071 is

pub at-2072 : (scene : Scene) (it : GroupValue) (call : Call) → call.number ≡ 2072 → items_of scene it call ≡ listed it.group call (header_at scene) (whole (encoded header))
unfolding items syscalls
at-2072 scene it call is = at-number scene it call 2072 is

pub at-2073 : (scene : Scene) (it : GroupValue) (call : Call) → call.number ≡ 2073 → items_of scene it call ≡ listed it.group call (input_at scene) (option_map input_part (Some Whole))
unfolding items syscalls
at-2073 scene it call is = at-number scene it call 2073 is

pub at-2074 : (scene : Scene) (it : GroupValue) (call : Call) → call.number ≡ 2074 → items_of scene it call ≡ listed it.group call (witness_at scene) (whole (λ witness. witness))
unfolding items syscalls
at-2074 scene it call is = at-number scene it call 2074 is

pub at-2081 : (scene : Scene) (it : GroupValue) (call : Call) → call.number ≡ 2081 → items_of scene it call ≡ listed it.group call (cell_at scene) (field cell_fields call.field)
unfolding items syscalls
at-2081 scene it call is = at-number scene it call 2081 is

pub at-2082 : (scene : Scene) (it : GroupValue) (call : Call) → call.number ≡ 2082 → items_of scene it call ≡ listed it.group call (header_at scene) (field (header_fields scene.epoch_length) call.field)
unfolding items syscalls
at-2082 scene it call is = at-number scene it call 2082 is

pub at-2083 : (scene : Scene) (it : GroupValue) (call : Call) → call.number ≡ 2083 → items_of scene it call ≡ listed it.group call (input_at scene) (field input_fields call.field)
unfolding items syscalls
at-2083 scene it call is = at-number scene it call 2083 is

pub at-2091 : (scene : Scene) (it : GroupValue) (call : Call) → call.number ≡ 2091 → items_of scene it call ≡ listed it.group call (cell_at scene) (option_map cell_part (Some Data))
unfolding items syscalls
at-2091 scene it call is = at-number scene it call 2091 is

pub at-2092 : (scene : Scene) (it : GroupValue) (call : Call) → call.number ≡ 2092 → items_of scene it call ≡ listed it.group call (cell_at scene) (option_map cell_part (Some Data))
unfolding items syscalls
at-2092 scene it call is = at-number scene it call 2092 is

-- ---- A number of no syscall that loads

abbrev IsUnknown : Scene → Group → Call → List Syscall → Type 0
IsUnknown scene group call rows = item_of_row scene group call (find (λ it. it.number == call.number) rows) ≡ Unknown

other : (scene : Scene) (group : Group) (call : Call) (it : Syscall) (rows : List Syscall) → (it.number ≡ call.number → ⊥) → IsUnknown scene group call rows
    → IsUnknown scene group call (it ∷ rows)
other scene group call it rows differs later =
    ap (λ (b : Bool). item_of_row scene group call (cond b (Some it) (find (λ syscall. syscall.number == call.number) rows))) (ne_eqb it.number call.number differs) ∙ later

loads-nothing : (scene : Scene) (group : Group) (call : Call) (it : Syscall) (rows : List Syscall) → item_of_row scene group call (Some it) ≡ Unknown → IsUnknown scene group call rows
    → IsUnknown scene group call (it ∷ rows)
loads-nothing scene group call it rows nothing later =
    elim (eqb it.number call.number) as (λ b. item_of_row scene group call (cond b (Some it) (find (λ syscall. syscall.number == call.number) rows)) ≡ Unknown) [
      | true ↦ nothing
      | false ↦ later
    ]

pub no-load : (scene : Scene) (it : GroupValue) (call : Call)
    → (call.number ≡ 2051 → ⊥) → (call.number ≡ 2052 → ⊥) → (call.number ≡ 2061 → ⊥) → (call.number ≡ 2062 → ⊥) → (call.number ≡ 2071 → ⊥) → (call.number ≡ 2072 → ⊥) → (call.number ≡ 2073 → ⊥) → (call.number ≡ 2074 → ⊥) → (call.number ≡ 2081 → ⊥) → (call.number ≡ 2082 → ⊥) → (call.number ≡ 2083 → ⊥) → (call.number ≡ 2091 → ⊥) → (call.number ≡ 2092 → ⊥)
    → items_of scene it call ≡ Unknown
unfolding items syscalls
no-load scene it call not2051 not2052 not2061 not2062 not2071 not2072 not2073 not2074 not2081 not2082 not2083 not2091 not2092 =
    let group = it.group in
    let end : IsUnknown scene group call [] = refl in
    let u2177 = loads-nothing scene group call (row 2177 table.Debugs table.Nothing) ([]) refl end in
    let u2092 = other scene group call (row 2092 table.Loads table.CellData) (row 2177 table.Debugs table.Nothing ∷ []) (λ e. not2092 (sym e)) u2177 in
    let u2091 = other scene group call (row 2091 table.LoadsCode table.CellData) (row 2092 table.Loads table.CellData ∷ row 2177 table.Debugs table.Nothing ∷ []) (λ e. not2091 (sym e)) u2092 in
    let u2083 = other scene group call (row 2083 table.LoadsField table.Inputs) (row 2091 table.LoadsCode table.CellData ∷ row 2092 table.Loads table.CellData ∷ row 2177 table.Debugs table.Nothing ∷ []) (λ e. not2083 (sym e)) u2091 in
    let u2082 = other scene group call (row 2082 table.LoadsField table.Headers) (row 2083 table.LoadsField table.Inputs ∷ row 2091 table.LoadsCode table.CellData ∷ row 2092 table.Loads table.CellData ∷ row 2177 table.Debugs table.Nothing ∷ []) (λ e. not2082 (sym e)) u2083 in
    let u2081 = other scene group call (row 2081 table.LoadsField table.CellOutputs) (row 2082 table.LoadsField table.Headers ∷ row 2083 table.LoadsField table.Inputs ∷ row 2091 table.LoadsCode table.CellData ∷ row 2092 table.Loads table.CellData ∷ row 2177 table.Debugs table.Nothing ∷ []) (λ e. not2081 (sym e)) u2082 in
    let u2074 = other scene group call (row 2074 table.Loads table.Witnesses) (row 2081 table.LoadsField table.CellOutputs ∷ row 2082 table.LoadsField table.Headers ∷ row 2083 table.LoadsField table.Inputs ∷ row 2091 table.LoadsCode table.CellData ∷ row 2092 table.Loads table.CellData ∷ row 2177 table.Debugs table.Nothing ∷ []) (λ e. not2074 (sym e)) u2081 in
    let u2073 = other scene group call (row 2073 table.Loads table.Inputs) (row 2074 table.Loads table.Witnesses ∷ row 2081 table.LoadsField table.CellOutputs ∷ row 2082 table.LoadsField table.Headers ∷ row 2083 table.LoadsField table.Inputs ∷ row 2091 table.LoadsCode table.CellData ∷ row 2092 table.Loads table.CellData ∷ row 2177 table.Debugs table.Nothing ∷ []) (λ e. not2073 (sym e)) u2074 in
    let u2072 = other scene group call (row 2072 table.Loads table.Headers) (row 2073 table.Loads table.Inputs ∷ row 2074 table.Loads table.Witnesses ∷ row 2081 table.LoadsField table.CellOutputs ∷ row 2082 table.LoadsField table.Headers ∷ row 2083 table.LoadsField table.Inputs ∷ row 2091 table.LoadsCode table.CellData ∷ row 2092 table.Loads table.CellData ∷ row 2177 table.Debugs table.Nothing ∷ []) (λ e. not2072 (sym e)) u2073 in
    let u2071 = other scene group call (row 2071 table.Loads table.CellOutputs) (row 2072 table.Loads table.Headers ∷ row 2073 table.Loads table.Inputs ∷ row 2074 table.Loads table.Witnesses ∷ row 2081 table.LoadsField table.CellOutputs ∷ row 2082 table.LoadsField table.Headers ∷ row 2083 table.LoadsField table.Inputs ∷ row 2091 table.LoadsCode table.CellData ∷ row 2092 table.Loads table.CellData ∷ row 2177 table.Debugs table.Nothing ∷ []) (λ e. not2071 (sym e)) u2072 in
    let u2062 = other scene group call (row 2062 table.Loads table.ScriptHash) (row 2071 table.Loads table.CellOutputs ∷ row 2072 table.Loads table.Headers ∷ row 2073 table.Loads table.Inputs ∷ row 2074 table.Loads table.Witnesses ∷ row 2081 table.LoadsField table.CellOutputs ∷ row 2082 table.LoadsField table.Headers ∷ row 2083 table.LoadsField table.Inputs ∷ row 2091 table.LoadsCode table.CellData ∷ row 2092 table.Loads table.CellData ∷ row 2177 table.Debugs table.Nothing ∷ []) (λ e. not2062 (sym e)) u2071 in
    let u2061 = other scene group call (row 2061 table.Loads table.TransactionHash) (row 2062 table.Loads table.ScriptHash ∷ row 2071 table.Loads table.CellOutputs ∷ row 2072 table.Loads table.Headers ∷ row 2073 table.Loads table.Inputs ∷ row 2074 table.Loads table.Witnesses ∷ row 2081 table.LoadsField table.CellOutputs ∷ row 2082 table.LoadsField table.Headers ∷ row 2083 table.LoadsField table.Inputs ∷ row 2091 table.LoadsCode table.CellData ∷ row 2092 table.Loads table.CellData ∷ row 2177 table.Debugs table.Nothing ∷ []) (λ e. not2061 (sym e)) u2062 in
    let u2052 = other scene group call (row 2052 table.Loads table.ScriptBytes) (row 2061 table.Loads table.TransactionHash ∷ row 2062 table.Loads table.ScriptHash ∷ row 2071 table.Loads table.CellOutputs ∷ row 2072 table.Loads table.Headers ∷ row 2073 table.Loads table.Inputs ∷ row 2074 table.Loads table.Witnesses ∷ row 2081 table.LoadsField table.CellOutputs ∷ row 2082 table.LoadsField table.Headers ∷ row 2083 table.LoadsField table.Inputs ∷ row 2091 table.LoadsCode table.CellData ∷ row 2092 table.Loads table.CellData ∷ row 2177 table.Debugs table.Nothing ∷ []) (λ e. not2052 (sym e)) u2061 in
    let u2051 = other scene group call (row 2051 table.Loads table.TransactionBytes) (row 2052 table.Loads table.ScriptBytes ∷ row 2061 table.Loads table.TransactionHash ∷ row 2062 table.Loads table.ScriptHash ∷ row 2071 table.Loads table.CellOutputs ∷ row 2072 table.Loads table.Headers ∷ row 2073 table.Loads table.Inputs ∷ row 2074 table.Loads table.Witnesses ∷ row 2081 table.LoadsField table.CellOutputs ∷ row 2082 table.LoadsField table.Headers ∷ row 2083 table.LoadsField table.Inputs ∷ row 2091 table.LoadsCode table.CellData ∷ row 2092 table.Loads table.CellData ∷ row 2177 table.Debugs table.Nothing ∷ []) (λ e. not2051 (sym e)) u2052 in
    let u93 = loads-nothing scene group call (row 93 table.Exits table.Nothing) (row 2051 table.Loads table.TransactionBytes ∷ row 2052 table.Loads table.ScriptBytes ∷ row 2061 table.Loads table.TransactionHash ∷ row 2062 table.Loads table.ScriptHash ∷ row 2071 table.Loads table.CellOutputs ∷ row 2072 table.Loads table.Headers ∷ row 2073 table.Loads table.Inputs ∷ row 2074 table.Loads table.Witnesses ∷ row 2081 table.LoadsField table.CellOutputs ∷ row 2082 table.LoadsField table.Headers ∷ row 2083 table.LoadsField table.Inputs ∷ row 2091 table.LoadsCode table.CellData ∷ row 2092 table.Loads table.CellData ∷ row 2177 table.Debugs table.Nothing ∷ []) refl u2051 in
    ap (λ (b : Bool). cond b (Here it.hash) (items scene it.group call)) (ne_eqb call.number 2062 not2062) ∙ u93

-- ---- With the hash of the script as the group has it

of-script-hash : (scene : Scene) (group : Group) (call : Call) → call.number ≡ 2062 → items scene group call ≡ Here (script_hash group.script)
unfolding items syscalls
of-script-hash scene group call is = ap (λ (number : ℕ). items scene group (record { number = number; index = call.index; source = call.source; field = call.field })) is

as-items : (scene : Scene) (it : GroupValue) → HasItsHash it → (call : Call) → items_of scene it call ≡ items scene it.group call
as-items scene it hash call =
    elim (eqb call.number 2062) as (λ b. eqb call.number 2062 ≡ b → cond b (Here it.hash) (items scene it.group call) ≡ items scene it.group call) [
      | true ↦ λ is. ap Here hash.hash ∙ sym (of-script-hash scene it.group call (eqb-true call.number 2062 is))
      | false ↦ λ other. refl
    ] refl

pub same-items : (scene : Scene) (it : GroupValue) → HasItsHash it → items_of scene it ≡ items scene it.group
same-items scene it hash = λ t call. as-items scene it hash call t
