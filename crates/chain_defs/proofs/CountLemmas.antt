-- How many inputs a canonical block has: each has bytes of its own among those of the block.
use Rattle.std.proofs.Common.{◌≡◌, ℕ, zero, suc, ◌+◌, ◌≤◌, List, [], ◌∷◌, ◌++◌, length, map, Some, refl, ap, arith}
use Rattle.std.specs.Prelude.{flat_map, slice_get}
use Rattle.std.specs.List.{concat}
use Rattle.std.specs.Int.{w32, w64, to_le_bytes}
use Rattle.std.proofs.lemmas.Option.{same_Some}
use Rattle.std.proofs.lemmas.List.{length-append}
use Rattle.chain_defs.specs.Molecule as molecule
use Rattle.chain_defs.specs.Shape.{Encoding, parts, bytes, dynvec}
use Rattle.chain_defs.specs.Schema.{out_point, CellInput, cell_input, raw_transaction, Transaction, transaction}
use Rattle.chain_defs.specs.FitLaws.{InputsAreFew}
use Rattle.chain_defs.proofs.ShapeLemmas.{table-parts, raw_fields, vec-fits}

-- ---- What stands in bytes is no longer than they are

part-in-concat : (items : List (List ℕ)) (i : ℕ) (item : List ℕ) → slice_get items i ≡ Some item → length item ≤ length (concat items)
part-in-concat [] i item there = absurd (cc)
part-in-concat (first ∷ items) zero item there =
    let same : length first ≡ length item = ap length (same_Some first item there) in
    let long = length-append first (concat items) in omega (arith, same, long)
part-in-concat (first ∷ items) (suc i) item there =
    let rest = part-in-concat items i item there in
    let long = length-append first (concat items) in omega (arith, rest, long)

concat-in-fixvec : (items : List (List ℕ)) → length (concat items) ≤ length (molecule.fixvec items)
unfolding molecule.fixvec
concat-in-fixvec items = let long = length-append (to_le_bytes w32 (length items)) (concat items) in omega (arith, long)

concat-in-dynvec : (items : List (List ℕ)) → length (concat items) ≤ length (molecule.dynvec items)
unfolding molecule.dynvec
concat-in-dynvec items =
    let front : List ℕ = to_le_bytes w32 (molecule.full_size items) ++ molecule.offsets (molecule.header_size items) items in
    let long : length (front ++ concat items) ≡ length front + length (concat items) = length-append front (concat items) in omega (arith, long)

-- ---- Inputs

-- an input has bytes, the eight of its since first
some-bytes : (since : ℕ) (rest : List ℕ) → 1 ≤ length (to_le_bytes w64 since ++ rest)
some-bytes since rest =
    let eight : length (to_le_bytes w64 since) ≡ 8 = refl in
    let long = length-append (to_le_bytes w64 since) rest in omega (arith, long, eight)

input-has-bytes : (input : CellInput) → 1 ≤ length (cell_input.encoding input).bytes
unfolding cell_input
input-has-bytes input = some-bytes input.since (concat (parts (out_point.encoding input.previous_output ∷ [])))

inputs-in-bytes : (inputs : List CellInput) → length inputs ≤ length (concat (parts (map cell_input.encoding inputs)))
inputs-in-bytes [] = omega arith
inputs-in-bytes (input ∷ later) =
    let own : List ℕ = (cell_input.encoding input).bytes in
    let rest : List ℕ = concat (parts (map cell_input.encoding later)) in
    let long : length (own ++ rest) ≡ length own + length rest = length-append own rest in
    omega (arith, input-has-bytes input, inputs-in-bytes later, long)

inputs-in-raw : (t : Transaction) → length t.raw.inputs ≤ length (raw_transaction.encoding t.raw).bytes
unfolding raw_transaction
inputs-in-raw t =
    let items : List (List ℕ) = parts (map cell_input.encoding t.raw.inputs) in
    let own = inputs-in-bytes t.raw.inputs in
    let vec = concat-in-fixvec items in
    let among = part-in-concat (parts (raw_fields t.raw)) 3 (molecule.fixvec items) refl in
    let whole = concat-in-dynvec (parts (raw_fields t.raw)) in
    omega (arith, own, vec, among, whole)

inputs-in-transaction : (t : Transaction) → length t.raw.inputs ≤ length (transaction.encoding t).bytes
unfolding transaction
inputs-in-transaction t =
    let fields : List Encoding = raw_transaction.encoding t.raw ∷ (dynvec bytes).encoding t.witnesses ∷ [] in
    let own = inputs-in-raw t in
    let among = part-in-concat (parts fields) 0 (raw_transaction.encoding t.raw).bytes refl in
    let whole = concat-in-dynvec (parts fields) in
    omega (arith, own, among, whole)

inputs-in-all : (txs : List Transaction) → length (flat_map (λ t. t.raw.inputs) txs) ≤ length (concat (parts (map transaction.encoding txs)))
inputs-in-all [] = omega arith
inputs-in-all (t ∷ later) =
    let own : List ℕ = (transaction.encoding t).bytes in
    let rest : List ℕ = concat (parts (map transaction.encoding later)) in
    let inputs : List CellInput = flat_map (λ (t : Transaction). t.raw.inputs) later in
    let long : length (own ++ rest) ≡ length own + length rest = length-append own rest in
    let many : length (t.raw.inputs ++ inputs) ≡ length t.raw.inputs + length inputs = length-append t.raw.inputs inputs in
    omega (arith, inputs-in-transaction t, inputs-in-all later, long, many)

pub inputs-are-few : InputsAreFew
inputs-are-few b canonical =
    let short = (table-parts (map transaction.encoding b.transactions) (vec-fits b canonical)).0 in
    let all = inputs-in-all b.transactions in
    let whole = concat-in-dynvec (parts (map transaction.encoding b.transactions)) in
    omega (arith, short, all, whole)
