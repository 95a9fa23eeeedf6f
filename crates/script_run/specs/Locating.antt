-- Where deps stand by their hashes.
use Rattle.std.specs.Prelude.{ℕ, suc, Bool, false, not, ◌==◌, List, [], ◌∷◌, length, Option, Some, None, if◌then◌else◌}
use Rattle.std.specs.List.{filter, list_all}
use Rattle.std.specs.Str.{bytes_eq}
use Rattle.cell_state.specs.Copies.{ResolvedValue}
use Rattle.script_run.specs.declared.codes.Typed.{Typed}

-- the place of the first dep with this hash of its data, of those from a place on
unfoldable pub first_with_data : List ℕ → ℕ → List ResolvedValue → Option ℕ
first_with_data hash place [] = None
first_with_data hash place (dep ∷ later) = if bytes_eq dep.row.data_hash hash then Some place else first_with_data hash (suc place) later

abbrev pub is_hash : List ℕ → Option (List ℕ) → Bool
is_hash hash None = false
is_hash hash (Some other) = bytes_eq other hash

abbrev pub has_type : List ℕ → ResolvedValue → Bool
has_type hash dep = is_hash hash dep.row.type_hash

-- the deps with this hash of their type script
abbrev pub with_type : List ℕ → List ResolvedValue → List ResolvedValue
with_type hash deps = filter (has_type hash) deps

-- whether a dep and the others with its type script are not one code
abbrev pub are_many : Bool → ResolvedValue → List ResolvedValue → Bool
are_many second dep others = not (if second then list_all (λ other. bytes_eq other.content dep.content) others else length others == 0)

-- what is kept of the deps with this hash of their type script, of those from a place on
unfoldable pub typed_with : Bool → List ℕ → ℕ → List ResolvedValue → Option Typed
typed_with second hash place [] = None
typed_with second hash place (dep ∷ later) =
    if has_type hash dep then Some (record { first = place; many = are_many second dep (with_type hash later) })
    else typed_with second hash (suc place) later
