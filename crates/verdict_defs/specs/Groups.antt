-- Script groups: the inputs and outputs that share a script run it once (RFC 0022, "Script Group"; docs/RULES.md, "Script groups").
use Rattle.std.specs.Prelude.{ℕ, Bool, not, List, [], ◌∷◌, ◌++◌, map, Option, Some, None, if◌then◌else◌}
use Rattle.std.specs.List.{filter, filter_map, enumerate_from}
use Rattle.std.specs.Str.{bytes_eq}
use Rattle.chain_defs.specs.Schema.{Script}
use Rattle.chain_defs.specs.Cell.{script_hash}
use Rattle.verdict_defs.specs.Scene.{Scene}

-- A group: its script, and the places of its members among the transaction's inputs and among its outputs, each in their order.
pub record Group : Type 0 where
  pub script : Script
  pub inputs : List ℕ
  pub outputs : List ℕ

abbrev pub has_hash : List ℕ → Script → Bool
has_hash hash s = bytes_eq (script_hash s) hash

-- one script for each hash, in the order in which they first appear
unfoldable pub first_scripts : List Script → List Script
first_scripts [] = []
first_scripts (s ∷ later) = s ∷ filter (λ other. not (has_hash (script_hash s) other)) (first_scripts later)

abbrev pub place_if : List ℕ → ℕ → Option Script → Option ℕ
place_if hash place None = None
place_if hash place (Some s) = if has_hash hash s then Some place else None

-- the places at which a script with this hash stands
unfoldable pub places_with : List ℕ → List (Option Script) → List ℕ
places_with hash scripts = filter_map (λ it. place_if hash it.0 it.1) (enumerate_from 0 scripts)

-- the lock and the type script of each input's cell, and the type script of each output
abbrev pub input_locks : Scene → List Script
input_locks scene = map (λ cell. cell.output.lock) scene.inputs

abbrev pub input_types : Scene → List (Option Script)
input_types scene = map (λ cell. cell.output.type_script) scene.inputs

abbrev pub output_types : Scene → List (Option Script)
output_types scene = map (λ output. output.type_script) scene.transaction.raw.outputs

-- One group for each lock hash, in the order of their first inputs. It has inputs only.
abbrev pub lock_group : Scene → Script → Group
lock_group scene s = record { script = s; inputs = places_with (script_hash s) (map Some (input_locks scene)); outputs = [] }

-- One group for each type hash, in the order of first appearance, inputs before outputs (docs/DECISIONS.md).
abbrev pub type_group : Scene → Script → Group
type_group scene s =
    record { script = s; inputs = places_with (script_hash s) (input_types scene); outputs = places_with (script_hash s) (output_types scene) }

-- the scripts of those that have one
abbrev pub present : Option Script → Option Script
present s = s

abbrev pub lock_groups : Scene → List Group
lock_groups scene = map (lock_group scene) (first_scripts (input_locks scene))

abbrev pub type_groups : Scene → List Group
type_groups scene = map (type_group scene) (first_scripts (filter_map present (input_types scene ++ output_types scene)))

-- The groups of a transaction: those of locks come first.
unfoldable pub groups_of : Scene → List Group
groups_of scene = lock_groups scene ++ type_groups scene
