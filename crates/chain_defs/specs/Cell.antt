-- Cells, and what they hold and occupy (RFC 0022; docs/RULES.md, "Cells").
use Rattle.std.specs.Prelude.{ℕ, Bool, ◌&&◌, ◌==◌, nat_lt, nat_le, List, [], length, replicate, unwrap_or, slice_get, if◌then◌else◌}
use Rattle.std.specs.Option.{option_map}
use Rattle.std.specs.List.{list_all, enumerate_from}
use Rattle.chain_defs.specs.CkbHash.{ckbhash}
use Rattle.chain_defs.specs.Shape.{encoded}
use Rattle.chain_defs.specs.Schema.{Script, script, CellOutput, Transaction}
use Rattle.chain_defs.specs.Dao.{occupied_capacity}

-- Hash types (RFC 0022, "Code Locating"): the code hash of a script is the hash of the code ..
abbrev pub by_data : ℕ
by_data = 0

-- .. or that of the type script of the cell that holds the code.
abbrev pub by_type : ℕ
by_type = 1

-- The hash of a script is that of the whole `Script` (RFC 0022, "Script").
unfoldable pub script_hash : Script → List ℕ
script_hash s = ckbhash (encoded script s)

-- The hash of a cell's data; 32 zero bytes where the data is empty (RFC 0022, "Cell").
unfoldable pub data_hash : List ℕ → List ℕ
data_hash content = if length content == 0 then replicate 32 0 else ckbhash content

-- what an output with its data occupies, in shannons
abbrev pub occupied_by : CellOutput → List ℕ → ℕ
occupied_by output content =
    occupied_capacity (length output.lock.args) (option_map (λ s. length s.args) output.type_script) (length content)

-- An output with its data holds what it occupies (RFC 0022, "Cell").
abbrev pub holds_its_own : CellOutput → List ℕ → Bool
holds_its_own output content = nat_le (occupied_by output content) output.capacity

-- A cell: an output with its data, the height of the block that made it, and the place of its transaction in that block.
pub record Cell : Type 0 where
  pub output : CellOutput
  pub content : List ℕ
  pub height : ℕ
  pub transaction : ℕ

-- It is an output of the cellbase of a block. Outputs of the genesis never count as such.
abbrev pub is_cellbase_output : Cell → Bool
is_cellbase_output cell = (cell.transaction == 0) && nat_lt 0 cell.height

-- The data of an output: what stands at its place, no bytes where nothing does.
abbrev pub data_of : Transaction → ℕ → List ℕ
data_of t index = unwrap_or (slice_get t.raw.outputs_data index) []

-- as many data as outputs
abbrev pub pairs_data : Transaction → Bool
pairs_data t = length t.raw.outputs_data == length t.raw.outputs

-- an output at its place holds what it occupies with its data
abbrev pub output_holds_its_own : Transaction → ℕ × CellOutput → Bool
output_holds_its_own t (index, output) = holds_its_own output (data_of t index)

-- Each output does.
abbrev pub outputs_hold_their_own : Transaction → Bool
outputs_hold_their_own t = list_all (output_holds_its_own t) (enumerate_from 0 t.raw.outputs)
