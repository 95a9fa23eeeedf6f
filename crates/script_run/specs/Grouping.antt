-- Groups that grow by one member after the other.
use Rattle.std.specs.Prelude.{◌≡◌, ℕ, suc, List, [], ◌∷◌, ◌++◌, map, Option, Some, None, if◌then◌else◌}
use Rattle.std.specs.List.{filter_map}
use Rattle.std.specs.Map.{lookup}
use Rattle.std.specs.Str.{bytes_eq}
use Rattle.chain_defs.specs.Schema.{Script}
use Rattle.chain_defs.specs.Cell.{script_hash}
use Rattle.verdict_defs.specs.Groups.{first_scripts, places_with, present}
use Rattle.script_run.specs.Shown.{GroupValue}

-- ---- The groups of scripts that inputs and outputs may have

abbrev pub group_for : List (Option Script) → List (Option Script) → Script → GroupValue
group_for inputs outputs s = record {
  group = record { script = s; inputs = places_with (script_hash s) inputs; outputs = places_with (script_hash s) outputs };
  hash = script_hash s;
}

unfoldable pub grouped : List (Option Script) → List (Option Script) → List GroupValue
grouped inputs outputs = map (group_for inputs outputs) (first_scripts (filter_map present (inputs ++ outputs)))

-- ---- One member more

abbrev pub new_group : List ℕ → Script → GroupValue
new_group hash s = record { group = record { script = s; inputs = []; outputs = [] }; hash = hash }

-- the groups with that of a hash, which is made where there is none
unfoldable pub with_group : List ℕ → Script → List GroupValue → List GroupValue
with_group hash s [] = new_group hash s ∷ []
with_group hash s (it ∷ later) = if bytes_eq it.hash hash then it ∷ later else it ∷ with_group hash s later

abbrev pub with_input : ℕ → GroupValue → GroupValue
with_input place it = record { group = record { script = it.group.script; inputs = it.group.inputs ++ place ∷ []; outputs = it.group.outputs }; hash = it.hash }

abbrev pub with_output : ℕ → GroupValue → GroupValue
with_output place it = record { group = record { script = it.group.script; inputs = it.group.inputs; outputs = it.group.outputs ++ place ∷ [] }; hash = it.hash }

-- the groups with a change to that of a hash
unfoldable pub changed : (GroupValue → GroupValue) → List ℕ → List GroupValue → List GroupValue
changed change hash [] = []
changed change hash (it ∷ later) = if bytes_eq it.hash hash then change it ∷ later else it ∷ changed change hash later

-- the place of the group of a hash, of those from a place on
unfoldable pub place_with : List ℕ → ℕ → List GroupValue → Option ℕ
place_with hash place [] = None
place_with hash place (it ∷ later) = if bytes_eq it.hash hash then Some place else place_with hash (suc place) later

-- the entries of a map tell the place of each group
pub record FindsEachGroup (places : List (List ℕ × ℕ)) (groups : List GroupValue) : Type 0 where
  pub at : (hash : List ℕ) → lookup (bytes_eq hash) places ≡ place_with hash 0 groups
