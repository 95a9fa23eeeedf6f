-- A transaction with what it resolves to, beside the scene that its scripts are shown.
use Rattle.std.specs.Prelude.{◌≡◌, ℕ, Bool, List, map, length, Some}
use Rattle.std.specs.Option.{option_map}
use Rattle.std.specs.List.{AllZip, enumerate_from}
use Rattle.chain_defs.specs.Shape.{decoded}
use Rattle.chain_defs.specs.Schema.{CellOutput, cell_output, Transaction}
use Rattle.chain_defs.specs.Hashes.{transaction_hash}
use Rattle.chain_defs.specs.Cell.{script_hash, data_hash, data_of, occupied_by}
use Rattle.chain_defs.specs.Row.{Row, row_of}
use Rattle.cell_state.specs.Copies.{ResolvedValue, ResolvedTxValue}
use Rattle.verdict_defs.specs.Scene.{Scene, ShownCell}
use Rattle.verdict_defs.specs.Groups.{Group}
use Rattle.verdict_defs.specs.Codes as codes
use Rattle.script_run.specs.declared.codes.Located.{Located}
use Rattle.script_run.specs.declared.codes.Located.TheVariants.{NoCode, ManyCodes, At}

-- a copy has the bytes of a shown cell, and its row the hashes and what it occupies
pub record IsShownAs (copy : ResolvedValue) (cell : ShownCell) : Type 0 where
  pub output : decoded cell_output copy.output ≡ Some cell.output
  pub content : copy.content ≡ cell.content
  pub lock : copy.row.lock_hash ≡ script_hash cell.output.lock
  pub type_script : copy.row.type_hash ≡ option_map script_hash cell.output.type_script
  pub content_hash : copy.row.data_hash ≡ data_hash cell.content
  pub occupied : copy.row.occupied ≡ occupied_by cell.output cell.content

-- What is shown of it, but for the headers.
pub record Shows (it : ResolvedTxValue) (scene : Scene) : Type 0 where
  pub transaction : scene.transaction ≡ it.tx
  pub hash : it.hash ≡ transaction_hash it.tx
  pub whole : length it.inputs ≡ length it.tx.raw.inputs
  pub inputs : AllZip IsShownAs it.inputs scene.inputs
  pub deps : AllZip IsShownAs it.deps scene.deps
  pub headers : length scene.headers ≡ length it.headers

-- ---- Rows of outputs

-- the row of an output, as of a cell that no block has made yet
abbrev pub output_row : Transaction → ℕ × CellOutput → Row
output_row t (index, output) = row_of 0 (record { output = output; content = data_of t index; height = 0; transaction = 0 })

-- the row of each output
unfoldable pub output_rows : Transaction → List Row
output_rows t = map (output_row t) (enumerate_from 0 t.raw.outputs)

-- the transaction, the rows of its outputs, how many blocks an epoch has, how many are kept, and whether code is found by the second edition
pub record ShownTxValue : Type 0 where
  pub it : ResolvedTxValue
  pub rows : List Row
  pub epoch_length : ℕ
  pub kept : ℕ
  pub second : Bool

-- ---- Groups and codes

-- a group, and the hash of its script
pub record GroupValue : Type 0 where
  pub group : Group
  pub hash : List ℕ

pub record HasItsHash (it : GroupValue) : Type 0 where
  pub hash : it.hash ≡ script_hash it.group.script

-- the resolved deps, and whether code is found among them by the second edition
pub record CodesValue : Type 0 where
  pub deps : List ResolvedValue
  pub second : Bool

abbrev pub codes_of : ShownTxValue → CodesValue
codes_of tx = record { deps = tx.it.deps; second = tx.second }

-- they are those of a scene
pub record AreCodesIn (it : CodesValue) (scene : Scene) : Type 0 where
  pub deps : AllZip IsShownAs it.deps scene.deps
  pub second : scene.second ≡ it.second

abbrev pub code_meaning : Located → codes.Code
code_meaning NoCode = codes.NoCode
code_meaning ManyCodes = codes.ManyCodes
code_meaning (At code) = codes.Is code.now
