-- Withdrawals from the Nervos DAO (RFC 0023; docs/RULES.md, "Withdrawals").
use Rattle.std.specs.Prelude.{ℕ, Bool, false, ◌&&◌, ◌||◌, ◌==◌, not, nat_lt, List, length, Option, Some, None, is_some, if◌then◌else◌, slice_get}
use Rattle.std.specs.Option.{option_and_then}
use Rattle.std.specs.List.{list_all, list_any, enumerate_from}
use Rattle.std.specs.Str.{bytes_eq}
use Rattle.std.specs.Int.{w64, from_le_bytes}
use Rattle.chain_defs.specs.Shape.{decoded}
use Rattle.chain_defs.specs.Schema.{Script, Transaction, witness_args}
use Rattle.chain_defs.specs.Specification.{Specification}
use Rattle.chain_defs.specs.Cell.{Cell, by_type}
use Rattle.rule_defs.specs.Site.{Site, Found}
use Rattle.rule_defs.specs.Resolving.{inputs, heights}

-- the type script of a DAO cell: its code is named by the type script of the cell that holds it
abbrev pub is_dao_script : Specification → Option Script → Bool
is_dao_script spec None = false
is_dao_script spec (Some s) = bytes_eq s.code_hash spec.dao_code_hash && (s.hash_type == by_type)

abbrev pub is_dao_cell : Specification → Cell → Bool
is_dao_cell spec cell = is_dao_script spec cell.output.type_script

-- 8 bytes of data that are not all zero; a deposit has 8 zero bytes
abbrev pub has_withdrawing_data : List ℕ → Bool
has_withdrawing_data content = (length content == 8) && not (list_all (λ b. b == 0) content)

-- A withdrawing cell: a DAO cell with such data.
abbrev pub is_withdrawing : Specification → Cell → Bool
is_withdrawing spec cell = is_dao_cell spec cell && has_withdrawing_data cell.content

-- ---- J26: the headers that a withdrawing input names

-- the index that 8 bytes are
abbrev pub index_in : List ℕ → Option ℕ
index_in bytes = if length bytes == 8 then Some (from_le_bytes w64 bytes) else None

-- The index of the header dep of the deposit block: the `input_type` of a canonical `WitnessArgs`, in the witness at the input's place.
unfoldable pub deposit_index : Transaction → ℕ → Option ℕ
deposit_index t place =
    option_and_then (λ witness. option_and_then (λ args. option_and_then index_in args.input_type) (decoded witness_args witness)) (slice_get t.witnesses place)

-- The height of the deposit block: of the header dep at that index, below that of the block that made the cell.
unfoldable pub deposit_height : List ℕ → Transaction → ℕ → Cell → Option ℕ
deposit_height heights t place cell =
    option_and_then (λ height. if nat_lt height cell.height then Some height else None) (option_and_then (slice_get heights) (deposit_index t place))

-- the header of the block that made the cell is among the header deps, and the witness names a deposit block
abbrev pub names_headers : List ℕ → Transaction → ℕ → Cell → Bool
names_headers heights t place cell =
    list_any (λ height. height == cell.height) heights && is_some (deposit_height heights t place cell)

abbrev pub withdraws_well : Site → Transaction → ℕ × Found → Bool
withdraws_well site t (place, found) = not (is_withdrawing site.spec found.cell) || names_headers (heights site t) t place found.cell

-- J26: each withdrawing input names its headers.
abbrev pub names_deposits : Site → Transaction → Bool
names_deposits site t = list_all (withdraws_well site t) (enumerate_from 0 (inputs site t))
