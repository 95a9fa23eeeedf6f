-- What is found for a script, beside what it is answered.
use Rattle.std.specs.Prelude.{◌≡◌, ⊤, Bool, true, ℕ, ◌*◌, ◌<◌, ◌==◌, List, Option, Some, None, IsSome, IsSomeAnd, IfSome, slice_get, if◌then◌else◌}
use Rattle.std.specs.Option.{option_map, option_and_then}
use Rattle.std.specs.List.{AllZip, list_any}
use Rattle.chain_defs.specs.Shape.{encoded, decoded}
use Rattle.chain_defs.specs.Schema.{Header, header, CellInput, cell_input, cell_output, out_point, script, transaction}
use Rattle.chain_defs.specs.Hashes.{transaction_hash}
use Rattle.chain_defs.specs.Epochs.{epoch_number}
use Rattle.chain_defs.specs.Row.{Row}
use Rattle.chain_defs.specs.Cell.{script_hash, data_hash, occupied_by}
use Rattle.cell_state.specs.Copies.{ResolvedTxValue}
use Rattle.chain_tree.specs.Told.{Stored}
use Rattle.chain_tree.specs.Reading.{Findings}
use Rattle.outside.specs.declared.disk.Damage.{Damage}
use Rattle.machine_defs.specs.World as world
use Rattle.machine_defs.specs.World.{Call, Item, Items}
use Rattle.verdict_defs.specs.Scene.{Scene}
use Rattle.verdict_defs.specs.Items.{OutputWithData, cell_at, header_at, input_at, items, listed, u64_bytes, whole, witness_at}
use Rattle.script_run.specs.Showing.{scene_shown}
use Rattle.script_run.specs.Shown.{GroupValue}
use Rattle.script_run.specs.declared.bytes.Bytes.{Bytes}
use Rattle.script_run.specs.declared.bytes.Bytes.TheVariants.{Slice, Hash, Number, Header as header_bytes}
use Rattle.script_run.specs.declared.bytes.CellPart.{CellPart}
use Rattle.script_run.specs.declared.bytes.CellPart.TheVariants as cell
use Rattle.script_run.specs.declared.bytes.HeaderPart.{HeaderPart}
use Rattle.script_run.specs.declared.bytes.HeaderPart.TheVariants as head
use Rattle.script_run.specs.declared.bytes.InputPart.{InputPart}
use Rattle.script_run.specs.declared.bytes.InputPart.TheVariants as input
use Rattle.script_run.specs.declared.bytes.Load.{Load}
use Rattle.script_run.specs.declared.bytes.Load.TheVariants as load
use Rattle.script_run.specs.declared.bytes.Answer.{Answer}
use Rattle.script_run.specs.declared.bytes.Answer.TheVariants.{Here, NoIndex, Missing, Unknown}
use Rattle.script_run.specs.declared.bytes.Lookup.{Lookup}
use Rattle.script_run.specs.declared.bytes.Lookup.TheVariants.{Answered, InBlock}

abbrev pub bytes_of : Bytes → List ℕ
bytes_of (Slice bytes) = bytes.now
bytes_of (Hash bytes) = bytes
bytes_of (Number bytes) = bytes
bytes_of (header_bytes bytes) = bytes

-- ---- The bytes of a part, none where it is missing

abbrev pub cell_part : CellPart → OutputWithData → Option (List ℕ)
cell_part cell.Output = λ it. Some (encoded cell_output it.output)
cell_part cell.Data = λ it. Some it.content
cell_part cell.Capacity = λ it. Some (u64_bytes it.output.capacity)
cell_part cell.DataHash = λ it. Some (data_hash it.content)
cell_part cell.Lock = λ it. Some (encoded script it.output.lock)
cell_part cell.LockHash = λ it. Some (script_hash it.output.lock)
cell_part cell.TypeScript = λ it. option_map (encoded script) it.output.type_script
cell_part cell.TypeHash = λ it. option_map script_hash it.output.type_script
cell_part cell.Occupied = λ it. Some (u64_bytes (occupied_by it.output it.content))

abbrev pub header_part : ℕ → HeaderPart → Header → List ℕ
header_part epoch_length head.Whole = λ h. encoded header h
header_part epoch_length head.EpochNumber = λ h. u64_bytes (epoch_number epoch_length h.number)
header_part epoch_length head.EpochStart = λ h. u64_bytes (epoch_number epoch_length h.number * epoch_length)
header_part epoch_length head.EpochLength = λ h. u64_bytes epoch_length

abbrev pub input_part : InputPart → CellInput → Option (List ℕ)
input_part input.Whole = λ it. Some (encoded cell_input it)
input_part input.OutPoint = λ it. Some (encoded out_point it.previous_output)
input_part input.Since = λ it. Some (u64_bytes it.since)

-- a row has the hashes of an output with its data, and what they occupy
pub record TellsOutput (row : Row) (it : OutputWithData) : Type 0 where
  pub lock : row.lock_hash ≡ script_hash it.output.lock
  pub type_script : row.type_hash ≡ option_map script_hash it.output.type_script
  pub content_hash : row.data_hash ≡ data_hash it.content
  pub occupied : row.occupied ≡ occupied_by it.output it.content

-- ---- Headers of kept blocks, by the places of the blocks

-- that of a block, where its place is among those of the header deps
abbrev pub header_among : List ℕ → (ℕ → Option Header) → ℕ → Option Header
header_among places headers place = if list_any (λ it. it == place) places then headers place else None

-- The scene shows the headers of the header deps, and of the blocks that made the cells where these are among them.
pub record ShowsHeaders (headers : ℕ → Option Header) (it : ResolvedTxValue) (scene : Scene) : Type 0 where
  pub inputs : AllZip (λ copy shown. shown.header ≡ header_among it.headers headers copy.row.block) it.inputs scene.inputs
  pub deps : AllZip (λ copy shown. shown.header ≡ header_among it.headers headers copy.row.block) it.deps scene.deps
  pub by_place : AllZip (λ place shown. headers place ≡ Some shown) it.headers scene.headers

-- ---- What is found

-- an answer as an item
abbrev pub item_of : Answer → Item
item_of (Here bytes) = world.Here (bytes_of bytes)
item_of NoIndex = world.NoIndex
item_of Missing = world.Missing
item_of Unknown = world.Unknown

-- What is found is the item, with what the headers of kept blocks say.
abbrev pub IsFound : (ℕ → Option Header) → ℕ → Item → Lookup → Type 0
IsFound headers epoch_length item (Answered answer) = item ≡ item_of answer
IsFound headers epoch_length item (InBlock place part) = IsSomeAnd (headers place) (λ h. item ≡ world.Here (header_part epoch_length part h))

-- a block that is to be read is one of those that are kept
abbrev pub IsOfKept : ℕ → Lookup → Type 0
IsOfKept kept (Answered answer) = ⊤
IsOfKept kept (InBlock place part) = place < kept

-- the damage that a source of blocks has found: how often, and which last
abbrev pub found_in : Findings → ℕ × Option Damage
found_in findings = (findings.count, findings.last)

-- the number of the syscall that loads the hash of the group's script
abbrev pub load_script_hash : ℕ
load_script_hash = 2062

-- What the script of a group is answered, with the hash of the script as the group has it.
abbrev pub items_of : Scene → GroupValue → Items
items_of scene it call = if call.number == load_script_hash then world.Here it.hash else items scene it.group call

-- what a call loads is answered
abbrev pub load_meaning : Scene → GroupValue → Call → Load → Item
load_meaning scene it call load.Transaction = world.Here (encoded transaction scene.transaction)
load_meaning scene it call load.Script = world.Here (encoded script it.group.script)
load_meaning scene it call load.TxHash = world.Here (transaction_hash scene.transaction)
load_meaning scene it call load.ScriptHash = world.Here it.hash
load_meaning scene it call (load.Cell part) = listed it.group call (cell_at scene) (option_map cell_part part)
load_meaning scene it call (load.Header part) = listed it.group call (header_at scene) (option_map (λ part h. Some (header_part scene.epoch_length part h)) part)
load_meaning scene it call (load.Input part) = listed it.group call (input_at scene) (option_map input_part part)
load_meaning scene it call load.Witness = listed it.group call (witness_at scene) (whole (λ witness. witness))
load_meaning scene it call load.Nothing = world.Unknown

-- ---- Kept blocks

-- the header of the kept block at a place
abbrev pub kept_header : List Stored → ℕ → Option Header
kept_header stored place = option_map (λ it. it.block.header) (slice_get stored place)

-- Headers that were read, by the places of their blocks, are those of the blocks that are known.
abbrev pub AreRead : Option (List Stored) → (ℕ → Option (List ℕ)) → Type 0
AreRead told read = (place : ℕ) (bytes : List ℕ) → read place ≡ Some bytes
    → IfSome told (λ stored. IfSome (slice_get stored place) (λ made. decoded header bytes ≡ Some made.block.header))

-- What surrounds the script of a group, where the kept blocks are known and show a scene.
abbrev pub known_items : Bool → ℕ → ResolvedTxValue → GroupValue → Option (List Stored) → Option Items
known_items second epoch_length it group told =
    option_and_then (λ stored. option_map (λ scene. items_of scene group) (scene_shown second epoch_length stored it)) told

-- where that is known, the kept blocks are
pub blocks-known : (second : Bool) (epoch_length : ℕ) (it : ResolvedTxValue) (group : GroupValue) (told : Option (List Stored)) → IsSome (known_items second epoch_length it group told) → IsSome told
blocks-known second epoch_length it group None known = known
blocks-known second epoch_length it group (Some stored) known = λ i. true
