-- What each syscall of a script asks for, and what it is answered (RFC 0009; docs/MACHINE.md, "What a script is shown").
use Rattle.std.specs.Prelude.{ℕ, ◌*◌, ◌==◌, List, [], ◌∷◌, Option, Some, None, slice_get}
use Rattle.std.specs.Option.{option_map, option_and_then}
use Rattle.std.specs.List.{find}
use Rattle.std.specs.Int.{w64, to_le_bytes}
use Rattle.chain_defs.specs.Shape.{encoded}
use Rattle.chain_defs.specs.Schema.{Header, header, CellInput, cell_input, CellOutput, cell_output, out_point, script, transaction}
use Rattle.chain_defs.specs.Hashes.{transaction_hash}
use Rattle.chain_defs.specs.Cell.{script_hash, data_hash, occupied_by, data_of}
use Rattle.chain_defs.specs.Epochs.{epoch_number}
use Rattle.machine_defs.specs.SyscallTable.{Action, Exits, Debugs, Loads, LoadsField, LoadsCode, Shown, Syscall, syscalls}
use Rattle.machine_defs.specs.SyscallTable as table
use Rattle.machine_defs.specs.World.{Call, Item, Here, NoIndex, Missing, Unknown, Items}
use Rattle.verdict_defs.specs.Scene.{Scene, ShownCell}
use Rattle.verdict_defs.specs.Groups.{Group}
use Rattle.verdict_defs.specs.Sources.{Place, AtInput, AtOutput, AtCellDep, AtHeaderDep, source_of, place_in_source}

-- ---- What stands at a place. `None`: the place has no such item. `Some None`: the item is missing.

pub record OutputWithData : Type 0 where
  pub output : CellOutput
  pub content : List ℕ

abbrev pub output_of : ShownCell → OutputWithData
output_of cell = record { output = cell.output; content = cell.content }

-- a cell: of an input, an output, a resolved dep
abbrev pub cell_at : Scene → Place → Option (Option OutputWithData)
cell_at scene (AtInput place) = option_map (λ cell. Some (output_of cell)) (slice_get scene.inputs place)
cell_at scene (AtOutput place) =
    option_map (λ output. Some (record { output = output; content = data_of scene.transaction place })) (slice_get scene.transaction.raw.outputs place)
cell_at scene (AtCellDep place) = option_map (λ cell. Some (output_of cell)) (slice_get scene.deps place)
cell_at scene (AtHeaderDep place) = None

-- a header: that of a header dep, or of the block that made a cell, which is missing where no header dep names that block
abbrev pub header_at : Scene → Place → Option (Option Header)
header_at scene (AtInput place) = option_map (λ cell. cell.header) (slice_get scene.inputs place)
header_at scene (AtOutput place) = None
header_at scene (AtCellDep place) = option_map (λ cell. cell.header) (slice_get scene.deps place)
header_at scene (AtHeaderDep place) = option_map Some (slice_get scene.headers place)

abbrev pub input_at : Scene → Place → Option (Option CellInput)
input_at scene (AtInput place) = option_map Some (slice_get scene.transaction.raw.inputs place)
input_at scene (AtOutput place) = None
input_at scene (AtCellDep place) = None
input_at scene (AtHeaderDep place) = None

-- the witness at a place of the inputs or of the outputs, without its length. All witnesses stand there, whatever the count of inputs and of
-- outputs (docs/DECISIONS.md).
abbrev pub witness_at : Scene → Place → Option (Option (List ℕ))
witness_at scene (AtInput place) = option_map Some (slice_get scene.transaction.witnesses place)
witness_at scene (AtOutput place) = option_map Some (slice_get scene.transaction.witnesses place)
witness_at scene (AtCellDep place) = None
witness_at scene (AtHeaderDep place) = None

-- ---- Fields

-- a field of a kind of item: its number, and its bytes, none where it is missing
pub record Field (I : Type 0) : Type 0 where
  pub number : ℕ
  pub bytes : I → Option (List ℕ)

abbrev pub u64_bytes : ℕ → List ℕ
u64_bytes n = to_le_bytes w64 n

unfoldable pub cell_fields : List (Field OutputWithData)
cell_fields =
    record { number = 0; bytes = λ cell. Some (u64_bytes cell.output.capacity) }
    ∷ record { number = 1; bytes = λ cell. Some (data_hash cell.content) }
    ∷ record { number = 2; bytes = λ cell. Some (encoded script cell.output.lock) }
    ∷ record { number = 3; bytes = λ cell. Some (script_hash cell.output.lock) }
    ∷ record { number = 4; bytes = λ cell. option_map (encoded script) cell.output.type_script }
    ∷ record { number = 5; bytes = λ cell. option_map script_hash cell.output.type_script }
    ∷ record { number = 6; bytes = λ cell. Some (u64_bytes (occupied_by cell.output cell.content)) }
    ∷ []

-- The number of the epoch, the number of its first block, and its length, by the block's number, for the genesis too (docs/DECISIONS.md).
unfoldable pub header_fields : ℕ → List (Field Header)
header_fields epoch_length =
    record { number = 0; bytes = λ h. Some (u64_bytes (epoch_number epoch_length h.number)) }
    ∷ record { number = 1; bytes = λ h. Some (u64_bytes (epoch_number epoch_length h.number * epoch_length)) }
    ∷ record { number = 2; bytes = λ h. Some (u64_bytes epoch_length) }
    ∷ []

unfoldable pub input_fields : List (Field CellInput)
input_fields =
    record { number = 0; bytes = λ input. Some (encoded out_point input.previous_output) }
    ∷ record { number = 1; bytes = λ input. Some (u64_bytes input.since) }
    ∷ []

-- ---- What is answered

-- what is asked of an item: all of it, or a field, where there is one of that number
abbrev pub Asked : Type 0 → Type 0
Asked I = Option (I → Option (List ℕ))

abbrev pub whole : {I : Type 0} → (I → List ℕ) → Asked I
whole bytes = Some (λ it. Some (bytes it))

abbrev pub field : {I : Type 0} → List (Field I) → ℕ → Asked I
field fields number = option_map (λ f. f.bytes) (find (λ f. f.number == number) fields)

abbrev pub answer : Option (Option (List ℕ)) → Item
answer None = NoIndex
answer (Some None) = Missing
answer (Some (Some bytes)) = Here bytes

-- the item at a place
abbrev pub item_at : {I : Type 0} → (Place → Option (Option I)) → (I → Option (List ℕ)) → Option Place → Item
item_at at bytes None = NoIndex
item_at at bytes (Some place) = answer (option_map (λ it. option_and_then bytes it) (at place))

-- An item of a list. An unknown source or field decides first, then an index that has no such item, then an item that is missing.
abbrev pub listed : {I : Type 0} → Group → Call → (Place → Option (Option I)) → Asked I → Item
listed group call at None = Unknown
listed group call at (Some bytes) = elim (source_of call.source) [
  | None ↦ Unknown
  | Some source ↦ item_at at bytes (place_in_source group source call.index)
]

-- What syscalls ask of cells, of headers, of inputs. The table has no row by which they would be asked for otherwise.
abbrev pub cells_asked : Action → ℕ → Asked OutputWithData
cells_asked LoadsField number = field cell_fields number
cells_asked Loads number = whole (λ cell. encoded cell_output cell.output)
cells_asked LoadsCode number = None
cells_asked Exits number = None
cells_asked Debugs number = None

abbrev pub headers_asked : ℕ → Action → ℕ → Asked Header
headers_asked epoch_length LoadsField number = field (header_fields epoch_length) number
headers_asked epoch_length Loads number = whole (encoded header)
headers_asked epoch_length LoadsCode number = None
headers_asked epoch_length Exits number = None
headers_asked epoch_length Debugs number = None

abbrev pub inputs_asked : Action → ℕ → Asked CellInput
inputs_asked LoadsField number = field input_fields number
inputs_asked Loads number = whole (encoded cell_input)
inputs_asked LoadsCode number = None
inputs_asked Exits number = None
inputs_asked Debugs number = None

abbrev pub shown_item : Scene → Group → Call → Action → Shown → Item
shown_item scene group call deed table.Nothing = Unknown
shown_item scene group call deed table.TransactionBytes = Here (encoded transaction scene.transaction)
shown_item scene group call deed table.ScriptBytes = Here (encoded script group.script)
shown_item scene group call deed table.TransactionHash = Here (transaction_hash scene.transaction)
shown_item scene group call deed table.ScriptHash = Here (script_hash group.script)
shown_item scene group call deed table.CellOutputs = listed group call (cell_at scene) (cells_asked deed call.field)
shown_item scene group call deed table.CellData = listed group call (cell_at scene) (whole (λ cell. cell.content))
shown_item scene group call deed table.Headers = listed group call (header_at scene) (headers_asked scene.epoch_length deed call.field)
shown_item scene group call deed table.Inputs = listed group call (input_at scene) (inputs_asked deed call.field)
shown_item scene group call deed table.Witnesses = listed group call (witness_at scene) (whole (λ witness. witness))

abbrev pub item_of_row : Scene → Group → Call → Option Syscall → Item
item_of_row scene group call None = Unknown
item_of_row scene group call (Some row) = shown_item scene group call row.deed row.shown

-- What surrounds the script of a group.
unfoldable pub items : Scene → Group → Items
items scene group call = item_of_row scene group call (find (λ row. row.number == call.number) syscalls)
