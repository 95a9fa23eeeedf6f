-- What is in canonical values, field by field.
use Rattle.std.proofs.Common.{◌≡◌, ℕ, zero, suc, ◌+◌, ◌*◌, ◌<◌, ◌^◌, Bool, true, false, List, [], ◌∷◌, ◌++◌, length, map, Option, Some, None, refl, sym, ap, ◌∙◌, subst, arith}
use Rattle.std.specs.Prelude.{nat_lt, ◌==◌, slice_get, unwrap_or, IfSome, replicate, if◌then◌else◌}
use Rattle.std.specs.Option.{option_map}
use Rattle.std.specs.List.{concat}
use Rattle.std.specs.Int.{w32, to_le_bytes}
use Rattle.std.proofs.lemmas.Bool.{and_parts, eqb-true, ltb-true}
use Rattle.std.proofs.lemmas.Option.{slice_get_within, same_Some}
use Rattle.std.proofs.lemmas.List.{length-append}
use Rattle.chain_defs.specs.Molecule as molecule
use Rattle.chain_defs.specs.Shape.{Shape, Encoding, parts, all_fit, are_bytes, u32, u64, byte, bytes, option, dynvec, fixvec, table}
use Rattle.chain_defs.specs.Schema.{byte32, proposal_short_id, header, uncle_block, cell_dep, Script, script, OutPoint, out_point, cell_input, CellOutput, cell_output, RawTransaction, raw_transaction, Transaction, transaction, Block, block}
use Rattle.chain_defs.specs.Dao.{occupied_capacity}
use Rattle.chain_defs.specs.CkbHash.{ckbhash}
use Rattle.chain_defs.specs.Hashes.{transaction_hash}
use Rattle.chain_defs.specs.Cell.{script_hash, data_hash}
use Rattle.chain_defs.specs.FitLaws.{IsCanonical, RowsOfOutputsFit, InputsFit, TransactionsAreFew}
use Rattle.chain_defs.proofs.HashLemmas.{hashes-have-32}

-- one of values that all fit does
fits-at : {V : Type 0} (shape : Shape V) (values : List V) (i : ℕ) (v : V) → all_fit (map shape.encoding values) ≡ true → slice_get values i ≡ Some v
    → (shape.encoding v).fits ≡ true
fits-at shape [] i v all there = absurd (cc)
fits-at shape (first ∷ values) zero v all there =
    let both = and_parts (shape.encoding first).fits (all_fit (map shape.encoding values)) all in
    subst (λ (x : _). (shape.encoding x).fits ≡ true) (same_Some first v there) both.0
fits-at shape (first ∷ values) (suc i) v all there =
    fits-at shape values i v (and_parts (shape.encoding first).fits (all_fit (map shape.encoding values)) all).1 there

-- one of fields that all fit
fit-at : (fields : List Encoding) (i : ℕ) (e : Encoding) → all_fit fields ≡ true → slice_get fields i ≡ Some e → e.fits ≡ true
fit-at [] i e all there = absurd (cc)
fit-at (first ∷ fields) zero e all there =
    subst (λ (x : Encoding). x.fits ≡ true) (same_Some first e there) (and_parts first.fits (all_fit fields) all).0
fit-at (first ∷ fields) (suc i) e all there = fit-at fields i e (and_parts first.fits (all_fit fields) all).1 there

-- a table is short, and its fields fit
pub table-parts : (fields : List Encoding) → (table fields).fits ≡ true → (length (molecule.dynvec (parts fields)) < 2 ^ 32) × (all_fit fields ≡ true)
table-parts fields fits =
    let both = and_parts (nat_lt (length (molecule.dynvec (parts fields))) (2 ^ 32)) (all_fit fields) fits in
    (ltb-true (length (molecule.dynvec (parts fields))) (2 ^ 32) both.0, both.1)

fixvec-fit : {V : Type 0} (size : ℕ) (shape : Shape V) (values : List V) → ((fixvec size shape).encoding values).fits ≡ true
    → all_fit (map shape.encoding values) ≡ true
fixvec-fit size shape values fits = (and_parts (nat_lt (length values) (2 ^ 32)) (all_fit (map shape.encoding values)) fits).1

-- ---- How many items a dynvec has

length-offsets : (start : ℕ) (items : List (List ℕ)) → length (molecule.offsets start items) ≡ 4 * length items
unfolding molecule.offsets
length-offsets start [] = refl
length-offsets start (item ∷ items) =
    length-append (to_le_bytes w32 start) (molecule.offsets (start + length item) items) ∙ omega (arith, length-offsets (start + length item) items)

few-items : (items : List (List ℕ)) → length (molecule.dynvec items) < 2 ^ 32 → length items < 2 ^ 32
unfolding molecule.dynvec
few-items items short =
    let start : ℕ = molecule.header_size items in
    let front : List ℕ = to_le_bytes w32 (molecule.full_size items) ++ molecule.offsets start items in
    let long : length (front ++ concat items) ≡ length front + length (concat items) = length-append front (concat items) in
    let middle : length front ≡ 4 + length (molecule.offsets start items) = length-append (to_le_bytes w32 (molecule.full_size items)) (molecule.offsets start items) in
    let each = length-offsets start items in
    omega (arith, short, long, middle, each)

count-parts : {V : Type 0} (shape : Shape V) (values : List V) → length (parts (map shape.encoding values)) ≡ length values
count-parts shape [] = refl
count-parts shape (v ∷ values) = ap suc (count-parts shape values)

-- ---- Blocks and transactions

abbrev block_fields : Block → List Encoding
block_fields b = header.encoding b.header ∷ (dynvec uncle_block).encoding b.uncles ∷ (dynvec transaction).encoding b.transactions
    ∷ (fixvec 10 proposal_short_id).encoding b.proposals ∷ []

pub vec-fits : (b : Block) → IsCanonical b → (table (map transaction.encoding b.transactions)).fits ≡ true
unfolding block
vec-fits b canonical = fit-at (block_fields b) 2 ((dynvec transaction).encoding b.transactions) (table-parts (block_fields b) canonical).1 refl

pub few-transactions : TransactionsAreFew
few-transactions b canonical =
    let few = few-items (parts (map transaction.encoding b.transactions)) (table-parts (map transaction.encoding b.transactions) (vec-fits b canonical)).0 in
    let many = count-parts transaction b.transactions in omega (arith, few, many)

abbrev pub raw_fields : RawTransaction → List Encoding
raw_fields raw = u32.encoding raw.version ∷ (fixvec 37 cell_dep).encoding raw.cell_deps ∷ (fixvec 32 byte32).encoding raw.header_deps
    ∷ (fixvec 44 cell_input).encoding raw.inputs ∷ (dynvec cell_output).encoding raw.outputs ∷ (dynvec bytes).encoding raw.outputs_data ∷ []

raw-fits : (b : Block) (place : ℕ) (t : Transaction) → IsCanonical b → slice_get b.transactions place ≡ Some t → all_fit (raw_fields t.raw) ≡ true
unfolding transaction raw_transaction
raw-fits b place t canonical there =
    let fits : (transaction.encoding t).fits ≡ true =
    fits-at transaction b.transactions place t (table-parts (map transaction.encoding b.transactions) (vec-fits b canonical)).1 there in
    let raw : (raw_transaction.encoding t.raw).fits ≡ true =
    fit-at (raw_transaction.encoding t.raw ∷ (dynvec bytes).encoding t.witnesses ∷ []) 0 (raw_transaction.encoding t.raw)
    (table-parts (raw_transaction.encoding t.raw ∷ (dynvec bytes).encoding t.witnesses ∷ []) fits).1 refl in
    (table-parts (raw_fields t.raw) raw).1

pub inputs-fit : InputsFit
unfolding cell_input out_point
inputs-fit b place index t input canonical there found =
    let vec = fit-at (raw_fields t.raw) 3 ((fixvec 44 cell_input).encoding t.raw.inputs) (raw-fits b place t canonical there) refl in
    let fits : (cell_input.encoding input).fits ≡ true = fits-at cell_input t.raw.inputs index input (fixvec-fit 44 cell_input t.raw.inputs vec) found in
    let point : (out_point.encoding input.previous_output).fits ≡ true =
    fit-at (u64.encoding input.since ∷ out_point.encoding input.previous_output ∷ []) 1 (out_point.encoding input.previous_output) fits refl in
    let o : OutPoint = input.previous_output in
    let hash = fit-at (byte32.encoding o.tx_hash ∷ u32.encoding o.index ∷ []) 0 (byte32.encoding o.tx_hash) point refl in
    let number = fit-at (byte32.encoding o.tx_hash ∷ u32.encoding o.index ∷ []) 1 (u32.encoding o.index) point refl in
    (eqb-true (length o.tx_hash) 32 (and_parts (length o.tx_hash == 32) (are_bytes o.tx_hash) hash).0, ltb-true o.index (2 ^ 32) number)

-- ---- Outputs and their data

few-bytes : (content : List ℕ) → (bytes.encoding content).fits ≡ true → length content < 2 ^ 32
few-bytes content fits = ltb-true (length content) (2 ^ 32) (and_parts (nat_lt (length content) (2 ^ 32)) (are_bytes content) fits).0

few-args : (s : Script) → (script.encoding s).fits ≡ true → length s.args < 2 ^ 32
unfolding script
few-args s fits =
    few-bytes s.args (fit-at (byte32.encoding s.code_hash ∷ byte.encoding s.hash_type ∷ bytes.encoding s.args ∷ []) 2 (bytes.encoding s.args)
    (table-parts (byte32.encoding s.code_hash ∷ byte.encoding s.hash_type ∷ bytes.encoding s.args ∷ []) fits).1 refl)

few-data : (datas : List (List ℕ)) (index : ℕ) → all_fit (map bytes.encoding datas) ≡ true → length (unwrap_or (slice_get datas index) []) < 2 ^ 32
few-data datas index all = by_found (slice_get datas index) refl
  where
    by_found : (found : Option (List ℕ)) → slice_get datas index ≡ found → length (unwrap_or found []) < 2 ^ 32
    by_found None there = omega arith
    by_found (Some content) there = few-bytes content (fits-at bytes datas index content all there)

record FitsOutput (output : CellOutput) : Type 0 where
  capacity : output.capacity < 2 ^ 64
  lock : length output.lock.args < 2 ^ 32
  type_script : IfSome output.type_script (λ s. length s.args < 2 ^ 32)

output-fits : (output : CellOutput) → (cell_output.encoding output).fits ≡ true → FitsOutput output
unfolding cell_output
output-fits output fits = record {
  capacity = ltb-true output.capacity (2 ^ 64) (fit-at fields 0 (u64.encoding output.capacity) all refl);
  lock = few-args output.lock (fit-at fields 1 (script.encoding output.lock) all refl);
  type_script = by_type output.type_script (fit-at fields 2 ((option script).encoding output.type_script) all refl);
}
  where
    fields : List Encoding
    fields = u64.encoding output.capacity ∷ script.encoding output.lock ∷ (option script).encoding output.type_script ∷ []

    all : all_fit fields ≡ true
    all = (table-parts fields fits).1

    by_type : (found : Option Script) → ((option script).encoding found).fits ≡ true → IfSome found (λ s. length s.args < 2 ^ 32)
    by_type None there = tt
    by_type (Some s) there = few-args s there

occupied-fits : (lock : ℕ) (args : Option ℕ) (content : ℕ) → lock < 2 ^ 32 → IfSome args (λ n. n < 2 ^ 32) → content < 2 ^ 32
    → occupied_capacity lock args content < 2 ^ 64
occupied-fits lock None content few type_few short = omega (arith, few, short)
occupied-fits lock (Some n) content few type_few short = omega (arith, few, type_few, short)

script-hash-32 : (s : Script) → length (script_hash s) ≡ 32
unfolding script_hash
script-hash-32 s = hashes-have-32 _

data-hash-32 : (content : List ℕ) → length (data_hash content) ≡ 32
unfolding data_hash
data-hash-32 content = by_test (length content == 0)
  where
    by_test : (b : Bool) → length (if b then replicate 32 0 else ckbhash content) ≡ 32
    by_test true = refl
    by_test false = hashes-have-32 content

transaction-hash-32 : (t : Transaction) → length (transaction_hash t) ≡ 32
unfolding transaction_hash
transaction-hash-32 t = hashes-have-32 _

pub rows-of-outputs-fit : RowsOfOutputsFit
rows-of-outputs-fit b place o cell canonical few is = record {
  tx_hash = sym (ap length is.hash) ∙ transaction-hash-32 is.t;
  index = index;
  block = few;
  transaction = let within = slice_get_within b.transactions cell.transaction is.t is.there in let most = few-transactions b canonical in omega (arith, within, most);
  capacity = output.capacity;
  occupied = occupied-fits (length cell.output.lock.args) (option_map (λ s. length s.args) cell.output.type_script) (length cell.content) output.lock
      (by_type cell.output.type_script output.type_script) data_few;
  lock_hash = script-hash-32 cell.output.lock;
  type_hash = by_hash cell.output.type_script;
  data_hash = data-hash-32 cell.content;
  data_len = data_few;
}
  where
    all : all_fit (raw_fields is.t.raw) ≡ true
    all = raw-fits b cell.transaction is.t canonical is.there

    vec_outputs : (table (map cell_output.encoding is.t.raw.outputs)).fits ≡ true
    vec_outputs = fit-at (raw_fields is.t.raw) 4 ((dynvec cell_output).encoding is.t.raw.outputs) all refl

    index : o.index < 2 ^ 32
    index =
        let few = few-items (parts (map cell_output.encoding is.t.raw.outputs)) (table-parts (map cell_output.encoding is.t.raw.outputs) vec_outputs).0 in
        let many = count-parts cell_output is.t.raw.outputs in
        let within = slice_get_within is.t.raw.outputs o.index cell.output is.output in
        omega (arith, few, many, within)

    output : FitsOutput cell.output
    output =
        output-fits cell.output (fits-at cell_output is.t.raw.outputs o.index cell.output (table-parts (map cell_output.encoding is.t.raw.outputs) vec_outputs).1 is.output)

    data_few : length cell.content < 2 ^ 32
    data_few =
        let vec = fit-at (raw_fields is.t.raw) 5 ((dynvec bytes).encoding is.t.raw.outputs_data) all refl in
        subst (λ (content : List ℕ). length content < 2 ^ 32) is.content
        (few-data is.t.raw.outputs_data o.index (table-parts (map bytes.encoding is.t.raw.outputs_data) vec).1)

    by_type : (found : Option Script) → IfSome found (λ s. length s.args < 2 ^ 32) → IfSome (option_map (λ s. length s.args) found) (λ n. n < 2 ^ 32)
    by_type None few_args = tt
    by_type (Some s) few_args = few_args

    by_hash : (found : Option Script) → IfSome (option_map script_hash found) (λ h. length h ≡ 32)
    by_hash None = tt
    by_hash (Some s) = script-hash-32 s
