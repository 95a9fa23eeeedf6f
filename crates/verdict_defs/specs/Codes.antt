-- The code of a script (RFC 0022, "Code Locating"; RFC 0029; docs/RULES.md, "Script groups"): the data of the resolved dep that the script names.
use Rattle.std.specs.Prelude.{ℕ, Bool, false, ◌&&◌, ◌==◌, List, [], ◌∷◌, ◌++◌, length, replicate, Option, Some, None, if◌then◌else◌}
use Rattle.std.specs.List.{find, filter, list_all}
use Rattle.std.specs.Str.{bytes_eq}
use Rattle.chain_defs.specs.Schema.{Script}
use Rattle.chain_defs.specs.Cell.{by_data, by_type, data_hash}
use Rattle.verdict_defs.specs.Scene.{ShownCell}
use Rattle.verdict_defs.specs.Groups.{has_hash}

pub data Code : Type 0 where
  -- no dep is named
  NoCode : Code
  -- more than one is, by a type script, and they are not one code
  ManyCodes : Code
  -- these bytes
  Is : List ℕ → Code

-- ---- The dep that is named

abbrev pub has_data_hash : List ℕ → ShownCell → Bool
has_data_hash hash cell = bytes_eq (data_hash cell.content) hash

abbrev pub is_script_of_hash : List ℕ → Option Script → Bool
is_script_of_hash hash None = false
is_script_of_hash hash (Some s) = has_hash hash s

abbrev pub has_type_hash : List ℕ → ShownCell → Bool
has_type_hash hash cell = is_script_of_hash hash cell.output.type_script

abbrev pub code_in : Option ShownCell → Code
code_in None = NoCode
code_in (Some cell) = Is cell.content

-- by data the first of them
abbrev pub code_by_data : List ShownCell → List ℕ → Code
code_by_data deps hash = code_in (find (has_data_hash hash) deps)

-- Whether a cell and the others with its type script are one code. Under the first edition no other may stand there, also where one cell is named
-- twice (docs/DECISIONS.md). Under the second they are one where all have the same data.
abbrev pub are_one_code : Bool → ShownCell → List ShownCell → Bool
are_one_code second cell others = if second then list_all (λ other. bytes_eq other.content cell.content) others else length others == 0

-- by type the one code that all of them are
abbrev pub only_code : Bool → List ShownCell → Code
only_code second [] = NoCode
only_code second (cell ∷ others) = if are_one_code second cell others then Is cell.content else ManyCodes

abbrev pub code_by_type : Bool → List ShownCell → List ℕ → Code
code_by_type second deps hash = only_code second (filter (has_type_hash hash) deps)

-- The code of a script among the resolved deps, under an edition. By any other hash type there is none.
unfoldable pub code_of : Bool → List ShownCell → Script → Code
code_of second deps s =
    if s.hash_type == by_data then code_by_data deps s.code_hash
    else if s.hash_type == by_type then code_by_type second deps s.code_hash
    else NoCode

-- ---- TYPE_ID, a script that is a rule and has no code (RFC 0022, "Type ID")

-- 25 zero bytes and the letters TYPE_ID in ASCII
unfoldable pub type_id_code_hash : List ℕ
type_id_code_hash = replicate 25 0 ++ 0x54 ∷ 0x59 ∷ 0x50 ∷ 0x45 ∷ 0x5f ∷ 0x49 ∷ 0x44 ∷ []

abbrev pub is_type_id : Script → Bool
is_type_id s = (s.hash_type == by_type) && bytes_eq s.code_hash type_id_code_hash
