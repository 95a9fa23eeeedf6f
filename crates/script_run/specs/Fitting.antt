-- What is tried of a transaction with what it resolves to, before a script of it runs, whatever is known of kept blocks.
use Rattle.std.specs.Prelude.{◌≡◌, ℕ, ◌<◌, nat_lt, Bool, true, false, ◌==◌, IsTrue, List, [], ◌∷◌, length, Option, Some, None, if◌then◌else◌}
use Rattle.std.specs.Option.{option_map, option_or, unwrap_or}
use Rattle.std.specs.List.{All, list_all}
use Rattle.chain_defs.specs.Shape.{decoded}
use Rattle.chain_defs.specs.Schema.{CellOutput, cell_output}
use Rattle.chain_tree.specs.declared.entry.Entry.{Entry}
use Rattle.chain_tree.specs.Entries.{entry_at}
use Rattle.cell_state.specs.Copies.{ResolvedValue, ResolvedTxValue}

-- both are there, or none is
abbrev pub agree : {A B : Type 0} → Option A → Option B → Bool
agree None None = true
agree None (Some other) = false
agree (Some it) None = false
agree (Some it) (Some other) = true

-- there is an output, and a type hash just where it has a type script
abbrev pub typed_as : Option (List ℕ) → Option CellOutput → Bool
typed_as type_hash None = false
typed_as type_hash (Some output) = agree output.type_script type_hash

-- a copy is an output, and its row has the hash of a type script just where that has one
abbrev pub is_typed : ResolvedValue → Bool
is_typed copy = typed_as copy.row.type_hash (decoded cell_output copy.output)

-- where in LOG the record of the block at a place is; 0 where none is kept there
abbrev pub record_of : List Entry → ℕ → ℕ
record_of entries place = unwrap_or (option_map (λ entry. entry.at) (entry_at entries place)) 0

-- of the first copy that is not so, where the record of its block is
unfoldable pub untyped : List Entry → List ResolvedValue → Option ℕ
untyped entries [] = None
untyped entries (copy ∷ copies) = if is_typed copy then untyped entries copies else Some (record_of entries copy.row.block)

-- an input has no copy, or a copy no input: of no record
abbrev pub uncopied : ResolvedTxValue → Option ℕ
uncopied it = if length it.inputs == length it.tx.raw.inputs then None else Some 0

-- a header dep has a place at which no block is kept: of no record
abbrev pub unkept : ℕ → List ℕ → Option ℕ
unkept kept places = if list_all (λ place. nat_lt place kept) places then None else Some 0

-- Where in LOG what the transaction resolves to does not fit, none where it does: 0 where an input has no copy; the record of the block of the first copy, among those of
-- the inputs and then among those of the deps, that is no output or whose row does not have the hash of a type script just where the output has one; 0 where
-- a header dep has no block.
unfoldable pub unfit : List Entry → ResolvedTxValue → Option ℕ
unfit entries it =
    option_or (uncopied it) (option_or (untyped entries it.inputs) (option_or (untyped entries it.deps) (unkept (length entries) it.headers)))

-- It fits, where so many blocks are kept.
pub record Fits (kept : ℕ) (it : ResolvedTxValue) : Type 0 where
  pub copied : length it.inputs ≡ length it.tx.raw.inputs
  pub inputs : All (λ copy. IsTrue (is_typed copy)) it.inputs
  pub deps : All (λ copy. IsTrue (is_typed copy)) it.deps
  pub kept_all : All (λ place. place < kept) it.headers
