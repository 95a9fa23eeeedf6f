-- What the scripts of a transaction are shown, of what it resolves to and of the kept blocks.
use Rattle.std.specs.Prelude.{ℕ, Bool, true, false, ◌&&◌, ◌==◌, List, map, length, Option, Some, None, if◌then◌else◌, slice_get}
use Rattle.std.specs.Option.{option_map, option_and_then}
use Rattle.std.specs.List.{list_any}
use Rattle.std.specs.Str.{bytes_eq}
use Rattle.chain_defs.specs.Shape.{decoded}
use Rattle.chain_defs.specs.Schema.{Header, CellOutput, cell_output, Transaction}
use Rattle.chain_defs.specs.Hashes.{transaction_hash}
use Rattle.chain_defs.specs.Cell.{script_hash, data_hash, occupied_by}
use Rattle.chain_defs.specs.Row.{Row}
use Rattle.chain_tree.specs.Told.{Stored}
use Rattle.cell_state.specs.Copies.{ResolvedValue, ResolvedTxValue}
use Rattle.rule_defs.specs.Site.{all_there}
use Rattle.verdict_defs.specs.Scene.{Scene, ShownCell}

-- The header of the block that made a cell, where its place is among those of the header deps.
abbrev pub header_of : List Stored → List ℕ → ℕ → Option Header
header_of stored headers place =
    if list_any (λ header. header == place) headers then option_map (λ it. it.block.header) (slice_get stored place) else None

abbrev pub same_hash : Option (List ℕ) → Option (List ℕ) → Bool
same_hash None None = true
same_hash None (Some other) = false
same_hash (Some hash) None = false
same_hash (Some hash) (Some other) = bytes_eq hash other

-- the row has the hashes of the output and its data, and what they occupy
abbrev pub tells_output : Row → CellOutput → List ℕ → Bool
tells_output row output content =
    bytes_eq row.lock_hash (script_hash output.lock) && same_hash row.type_hash (option_map script_hash output.type_script)
    && bytes_eq row.data_hash (data_hash content) && row.occupied == occupied_by output content

-- a copy as a shown cell, where its bytes are an output's and its row tells of it
unfoldable pub cell_shown : List Stored → List ℕ → ResolvedValue → Option ShownCell
cell_shown stored headers copy = option_and_then
    (λ output. if tells_output copy.row output copy.content
    then Some (record { output = output; content = copy.content; header = header_of stored headers copy.row.block }) else None)
    (decoded cell_output copy.output)

abbrev pub cells_shown : List Stored → List ℕ → List ResolvedValue → Option (List ShownCell)
cells_shown stored headers copies = all_there (map (cell_shown stored headers) copies)

abbrev pub headers_shown : List Stored → List ℕ → Option (List Header)
headers_shown stored headers = all_there (map (λ place. option_map (λ it. it.block.header) (slice_get stored place)) headers)

-- the hash is the transaction's, and each input has its cell
abbrev pub is_whole : ResolvedTxValue → Bool
is_whole it = bytes_eq it.hash (transaction_hash it.tx) && (length it.inputs == length it.tx.raw.inputs)

abbrev pub scene_with : Bool → ℕ → Transaction → Option (List ShownCell) → Option (List ShownCell) → Option (List Header) → Option Scene
scene_with second epoch_length tx None deps headers = None
scene_with second epoch_length tx (Some inputs) None headers = None
scene_with second epoch_length tx (Some inputs) (Some deps) None = None
scene_with second epoch_length tx (Some inputs) (Some deps) (Some headers) =
    Some (record { transaction = tx; inputs = inputs; deps = deps; headers = headers; epoch_length = epoch_length; second = second })

-- What is shown over kept blocks that are known, where the transaction is whole.
unfoldable pub scene_shown : Bool → ℕ → List Stored → ResolvedTxValue → Option Scene
scene_shown second epoch_length stored it =
    if is_whole it
    then scene_with second epoch_length it.tx (cells_shown stored it.headers it.inputs) (cells_shown stored it.headers it.deps) (headers_shown stored it.headers)
    else None
