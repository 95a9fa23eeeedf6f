-- The rules on a block's cellbase, J16 and J17 (RFC 0022, "Cellbase Transaction"; docs/RULES.md, "The cellbase").
use Rattle.std.specs.Prelude.{ℕ, Bool, false, ◌&&◌, ◌==◌, not, nat_le, List, [], ◌∷◌, map, length, replicate, Option, is_some, slice_get}
use Rattle.std.specs.Option.{option_map, option_and_then}
use Rattle.std.specs.List.{list_all, list_any}
use Rattle.std.specs.Str.{bytes_eq}
use Rattle.chain_defs.specs.Shape.{decoded}
use Rattle.chain_defs.specs.Schema.{OutPoint, Script, CellInput, Transaction, Block, cellbase_witness}
use Rattle.chain_defs.specs.Hashes.{transaction_hash, are_distinct}
use Rattle.chain_defs.specs.Cell.{Cell, pairs_data}
use Rattle.chain_defs.specs.Events.{made_out_points}

-- the out-point that names no output
unfoldable pub null_index : ℕ
null_index = 0xffffffff

abbrev pub is_null : OutPoint → Bool
is_null o = bytes_eq o.tx_hash (replicate 32 0) && (o.index == null_index)

abbrev pub is_null_input : List CellInput → Bool
is_null_input [] = false
is_null_input (input ∷ []) = is_null input.previous_output
is_null_input (input ∷ other ∷ later) = false

-- A cellbase has exactly one input, which names no output.
abbrev pub is_cellbase : Transaction → Bool
is_cellbase t = is_null_input t.raw.inputs

abbrev pub begins_with_cellbase : List Transaction → Bool
begins_with_cellbase [] = false
begins_with_cellbase (first ∷ later) = is_cellbase first && not (list_any is_cellbase later)

-- J16: its first transaction is a cellbase, no other is one, and the hashes of its transactions are distinct.
unfoldable pub has_cellbase : Block → Bool
has_cellbase b = begins_with_cellbase b.transactions && are_distinct (map transaction_hash b.transactions)

-- ---- J17

abbrev pub has_since : ℕ → CellInput → Bool
has_since number input = input.since == number

-- at most one output, with no type script and no data
abbrev pub has_plain_output : Transaction → Bool
has_plain_output t =
    nat_le (length t.raw.outputs) 1 && pairs_data t
    && list_all (λ output. not (is_some output.type_script)) t.raw.outputs && list_all (λ content. length content == 0) t.raw.outputs_data

-- The lock in its first witness, which is a canonical `CellbaseWitness`: what a later cellbase pays for its block goes there.
abbrev pub lock_named : Transaction → Option Script
lock_named t = option_map (λ witness. witness.lock) (option_and_then (decoded cellbase_witness) (slice_get t.witnesses 0))

abbrev pub names_lock : Transaction → Bool
names_lock t = is_some (lock_named t)

-- Version 0, no deps; the since of its input is the block's number; at most one output, whose out-point is not live; a witness that names a lock.
abbrev pub is_well_formed_cellbase : (OutPoint → Option Cell) → ℕ → Transaction → Bool
is_well_formed_cellbase live number t =
    (t.raw.version == 0) && (length t.raw.cell_deps == 0) && (length t.raw.header_deps == 0)
    && list_all (has_since number) t.raw.inputs && has_plain_output t
    && not (list_any (λ o. is_some (live o)) (made_out_points t)) && names_lock t

abbrev pub is_first_well_formed : (OutPoint → Option Cell) → ℕ → List Transaction → Bool
is_first_well_formed live number [] = false
is_first_well_formed live number (first ∷ later) = is_well_formed_cellbase live number first

-- J17: the cellbase has this form, over the live cells of the branch.
unfoldable pub forms_cellbase : (OutPoint → Option Cell) → Block → Bool
forms_cellbase live b = is_first_well_formed live b.header.number b.transactions
