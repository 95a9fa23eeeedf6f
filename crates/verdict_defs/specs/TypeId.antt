-- TYPE_ID, a script that is a rule: its args are made of an input that is spent, so that no other cell is made with them (RFC 0022, "Type ID";
-- docs/RULES.md, "Script groups").
use Rattle.std.specs.Prelude.{ℕ, ℤ, pos, negsuc, Bool, ◌&&◌, ◌||◌, ◌==◌, not, nat_lt, List, [], ◌++◌, length, Option, Some, None, if◌then◌else◌, slice_get}
use Rattle.std.specs.List.{list_all}
use Rattle.std.specs.Str.{bytes_eq}
use Rattle.std.specs.Int.{w64, to_le_bytes}
use Rattle.chain_defs.specs.CkbHash.{ckbhash}
use Rattle.chain_defs.specs.Shape.{encoded}
use Rattle.chain_defs.specs.Schema.{CellInput, cell_input}
use Rattle.verdict_defs.specs.Scene.{Scene}
use Rattle.verdict_defs.specs.Groups.{Group}

-- its cycles, which are taken before it is judged
unfoldable pub type_id_cycles : ℕ
type_id_cycles = 1000000

abbrev pub input_bytes : Option CellInput → List ℕ
input_bytes None = []
input_bytes (Some input) = encoded cell_input input

-- The args that the output at a place is given: the hash of the 44 bytes of the transaction's first input, followed by the place as a u64.
unfoldable pub new_type_id : Scene → ℕ → List ℕ
new_type_id scene place = ckbhash (input_bytes (slice_get scene.transaction.raw.inputs 0) ++ to_le_bytes w64 place)

-- the args are those of each output of the group
abbrev pub is_new : Scene → Group → Bool
is_new scene group = list_all (λ place. bytes_eq group.script.args (new_type_id scene place)) group.outputs

-- The code with which it exits: -1 where its args are not 32 bytes; -2 where it has more than one input or more than one output; -3 where it
-- has no input and its args are not those that its output is given; else 0.
unfoldable pub type_id_exit : Scene → Group → ℤ
type_id_exit scene group =
    if not (length group.script.args == 32) then negsuc 0
    else if nat_lt 1 (length group.inputs) || nat_lt 1 (length group.outputs) then negsuc 1
    else if (length group.inputs == 0) && not (is_new scene group) then negsuc 2
    else pos 0
