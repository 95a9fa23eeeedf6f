-- The sums are small: what was issued fits 64 bits, and so does the capacity of each output of the genesis, of which four bytes count more than there are.
use Rattle.std.proofs.Common.{◌≡◌, ℕ, zero, suc, ◌+◌, ◌*◌, ◌<◌, ◌≤◌, ◌^◌, true, List, [], ◌∷◌, ◌++◌, length, map, Option, Some, refl, sym, ap, ◌∙◌, subst, arith}
use Rattle.std.specs.Prelude.{◌==◌, nat_lt, nat_le, IsTrue, slice_get}
use Rattle.std.specs.Int.{w64, from_le_bytes}
use Rattle.std.specs.List.{concat, list_all, slice_range, sum_by, enumerate_from}
use Rattle.std.proofs.lemmas.Bool.{and_parts, leb-true, ltb-true}
use Rattle.std.proofs.lemmas.Int.{ints}
use Rattle.std.proofs.lemmas.List.{length-append}
use Rattle.std.proofs.lemmas.List.Sums.{sum_by-cons}
use Rattle.std.proofs.lemmas.Option.{same_Some, slice_get_within}
use Rattle.chain_defs.specs.Molecule as molecule
use Rattle.chain_defs.specs.Checked.{AreBytes}
use Rattle.chain_defs.specs.Shape.{Encoding, parts, all_fit, are_bytes, bytes, dynvec, fixvec, u32, u64, u128}
use Rattle.chain_defs.specs.Schema.{byte32, proposal_short_id, Header, header, uncle_block, CellOutput, cell_output, Transaction, raw_transaction, transaction, Block, block}
use Rattle.chain_defs.specs.Dao.{DaoField, field_of_bytes}
use Rattle.chain_defs.specs.Kept.{block_at}
use Rattle.chain_defs.specs.Branch.{branch_places, branch}
use Rattle.chain_defs.proofs.BranchLaws.{branch-last}
use Rattle.chain_defs.proofs.KeptLaws.{slice_get-below}
use Rattle.chain_defs.proofs.MoleculeLaws.{length-dynvec}
use Rattle.chain_defs.proofs.ShapeLaws.{AreBytes-range}
use Rattle.chain_defs.specs.Cell.{Cell, data_of, occupied_by, output_holds_its_own, outputs_hold_their_own}
use Rattle.chain_defs.specs.FitLaws.{IsCanonical, AreCanonical}
use Rattle.chain_defs.specs.Row.{IsOutputOf}
use Rattle.chain_defs.proofs.ShapeLemmas.{table-parts, vec-fits, raw_fields, rows-of-outputs-fit}
use Rattle.chain_defs.specs.Hashes.{transaction_hash}
use Rattle.rule_defs.specs.Capacity.{held_out}
use Rattle.rule_defs.specs.Field.{occupied_output, made_by}
use Rattle.rule_defs.specs.Reward.{dao_of}
use Rattle.verdict_defs.specs.Chain.{Chain}
use Rattle.store_defs.specs.Store.{IsJoined}
use Rattle.store_defs.proofs.RuleLemmas.{capacity-good}
use Rattle.supply_defs.specs.Sums.{Sums, sums_of, live_capacity, live_occupied, unpaid, burned}
use Rattle.supply_defs.specs.Step.{last_field}
use Rattle.supply_defs.specs.Laws.{supply_balance, occupied_balance, AreSmall, SumsAreSmall, StartsSmall}
use Rattle.supply_defs.proofs.Along.{nothing-is-lost, occupied-stays}
use Rattle.supply_defs.proofs.Start.{starts-with-its-outputs}

-- ---- The numbers of a DAO field

each-byte : (bs : List ℕ) → are_bytes bs ≡ true → AreBytes bs
each-byte [] all i = omega arith
each-byte (b ∷ bs) all zero = ltb-true b 256 (and_parts (nat_lt b 256) (are_bytes bs) all).0
each-byte (b ∷ bs) all (suc i) = each-byte bs (and_parts (nat_lt b 256) (are_bytes bs) all).1 i

eight-bytes : (bs : List ℕ) → AreBytes bs → from_le_bytes w64 bs < 2 ^ 64
eight-bytes bs are =
    let a = are 0 in
    let b = are 1 in
    let c = are 2 in
    let d = are 3 in
    let e = are 4 in
    let f = are 5 in
    let g = are 6 in
    let h = are 7 in
    omega arith

-- one of fields that all fit
fit-at : (fields : List Encoding) (i : ℕ) (e : Encoding) → all_fit fields ≡ true → slice_get fields i ≡ Some e → e.fits ≡ true
fit-at [] i e all there = absurd (cc)
fit-at (first ∷ fields) zero e all there =
    subst (λ (x : Encoding). x.fits ≡ true) (same_Some first e there) (and_parts first.fits (all_fit fields) all).0
fit-at (first ∷ fields) (suc i) e all there = fit-at fields i e (and_parts first.fits (all_fit fields) all).1 there

abbrev header_fields : Header → List Encoding
header_fields h =
    u32.encoding h.version ∷ u32.encoding h.compact_target ∷ u64.encoding h.timestamp ∷ u64.encoding h.number ∷ u64.encoding h.epoch
    ∷ byte32.encoding h.parent_hash ∷ byte32.encoding h.transactions_root ∷ byte32.encoding h.proposals_hash ∷ byte32.encoding h.uncles_hash
    ∷ byte32.encoding h.dao ∷ u128.encoding h.nonce ∷ []

header-dao : (h : Header) → (header.encoding h).fits ≡ true → are_bytes h.dao ≡ true
unfolding header
header-dao h fits = (and_parts (length h.dao == 32) (are_bytes h.dao) (fit-at (header_fields h) 9 (byte32.encoding h.dao) fits refl)).1

abbrev block_fields : Block → List Encoding
block_fields b = header.encoding b.header ∷ (dynvec uncle_block).encoding b.uncles ∷ (dynvec transaction).encoding b.transactions
    ∷ (fixvec 10 proposal_short_id).encoding b.proposals ∷ []

-- the bytes of the field of a canonical block are bytes
dao-bytes : (b : Block) → IsCanonical b → AreBytes b.header.dao
unfolding block
dao-bytes b canonical = each-byte b.header.dao (header-dao b.header (fit-at (block_fields b) 0 (header.encoding b.header) (table-parts (block_fields b) canonical).1 refl))

-- the three numbers fit 64 bits
record Fits (field : DaoField) : Type 0 where
  issued : field.issued < 2 ^ 64
  savings : field.savings < 2 ^ 64
  occupied : field.occupied < 2 ^ 64

field-fits : (b : Block) → IsCanonical b → Fits (field_of_bytes b.header.dao)
unfolding field_of_bytes
field-fits b canonical =
    let all = dao-bytes b canonical in
    record {
      issued = eight-bytes (slice_range b.header.dao 0 8) (AreBytes-range b.header.dao 0 8 all);
      savings = eight-bytes (slice_range b.header.dao 16 24) (AreBytes-range b.header.dao 16 24 all);
      occupied = eight-bytes (slice_range b.header.dao 24 32) (AreBytes-range b.header.dao 24 32 all);
    }

-- ---- How many outputs a canonical block has

part-in-concat : (items : List (List ℕ)) (i : ℕ) (item : List ℕ) → slice_get items i ≡ Some item → length item ≤ length (concat items)
part-in-concat [] i item there = absurd (cc)
part-in-concat (first ∷ items) zero item there =
    let same : length first ≡ length item = ap length (same_Some first item there) in
    let long = length-append first (concat items) in omega (arith, same, long)
part-in-concat (first ∷ items) (suc i) item there =
    let rest = part-in-concat items i item there in
    let long = length-append first (concat items) in omega (arith, rest, long)

record DynvecSize (items : List (List ℕ)) : Type 0 where
  parts : length (concat items) ≤ length (molecule.dynvec items)
  count : length items ≤ length (molecule.dynvec items)

dynvec-size : (items : List (List ℕ)) → DynvecSize items
unfolding molecule.full_size molecule.header_size
dynvec-size items = let long = length-dynvec items in record { parts = omega (arith, long); count = omega (arith, long) }

count-parts : (outputs : List CellOutput) → length (parts (map cell_output.encoding outputs)) ≡ length outputs
count-parts [] = refl
count-parts (output ∷ outputs) = ap suc (count-parts outputs)

outputs-in-raw : (t : Transaction) → length t.raw.outputs ≤ length (raw_transaction.encoding t.raw).bytes
unfolding raw_transaction
outputs-in-raw t =
    let items : List (List ℕ) = parts (map cell_output.encoding t.raw.outputs) in
    let many = count-parts t.raw.outputs in
    let vec = (dynvec-size items).count in
    let among = part-in-concat (parts (raw_fields t.raw)) 4 (molecule.dynvec items) refl in
    let whole = (dynvec-size (parts (raw_fields t.raw))).parts in
    omega (arith, many, vec, among, whole)

outputs-in-transaction : (t : Transaction) → length t.raw.outputs ≤ length (transaction.encoding t).bytes
unfolding transaction
outputs-in-transaction t =
    let fields : List Encoding = raw_transaction.encoding t.raw ∷ (dynvec bytes).encoding t.witnesses ∷ [] in
    let own = outputs-in-raw t in
    let among = part-in-concat (parts fields) 0 (raw_transaction.encoding t.raw).bytes refl in
    let whole = (dynvec-size (parts fields)).parts in
    omega (arith, own, among, whole)

abbrev outputs_in : List Transaction → ℕ
outputs_in txs = sum_by (λ (t : Transaction). length t.raw.outputs) txs

outputs-in-all : (txs : List Transaction) → outputs_in txs ≤ length (concat (parts (map transaction.encoding txs)))
outputs-in-all [] = omega arith
outputs-in-all (t ∷ later) =
    let own : List ℕ = (transaction.encoding t).bytes in
    let rest : List ℕ = concat (parts (map transaction.encoding later)) in
    let long : length (own ++ rest) ≡ length own + length rest = length-append own rest in
    omega (arith, outputs-in-transaction t, outputs-in-all later, long, sum_by-cons (λ (t : Transaction). length t.raw.outputs) t later)

outputs-are-few : (b : Block) → IsCanonical b → outputs_in b.transactions < 2 ^ 32
outputs-are-few b canonical =
    let short = (table-parts (map transaction.encoding b.transactions) (vec-fits b canonical)).0 in
    let all = outputs-in-all b.transactions in
    let whole = (dynvec-size (parts (map transaction.encoding b.transactions))).parts in
    omega (arith, short, all, whole)

-- ---- What they hold

capacity-fits : (b : Block) (place : ℕ) (t : Transaction) (index : ℕ) (output : CellOutput) → IsCanonical b → slice_get b.transactions place ≡ Some t
    → slice_get t.raw.outputs index ≡ Some output → output.capacity < 2 ^ 64
capacity-fits b place t index output canonical there found =
    let cell : Cell = record { output = output; content = data_of t index; height = 0; transaction = place } in
    let is : IsOutputOf b (record { tx_hash = transaction_hash t; index = index }) cell =
    record { t = t; there = there; hash = refl; output = found; content = refl } in
    (rows-of-outputs-fit b 0 (record { tx_hash = transaction_hash t; index = index }) cell canonical (omega arith) is).capacity

held-outputs : (outputs : List CellOutput) → ((index : ℕ) (output : CellOutput) → slice_get outputs index ≡ Some output → output.capacity < 2 ^ 64)
    → sum_by (λ (output : CellOutput). output.capacity) outputs ≤ length outputs * 2 ^ 64
held-outputs [] each = omega arith
held-outputs (output ∷ later) each =
    let here = each 0 output refl in
    let rest = held-outputs later (λ index other there. each (suc index) other there) in
    omega (arith, here, rest, sum_by-cons (λ (output : CellOutput). output.capacity) output later)

held-all : (txs : List Transaction)
    → ((place : ℕ) (t : Transaction) (index : ℕ) (output : CellOutput) → slice_get txs place ≡ Some t → slice_get t.raw.outputs index ≡ Some output → output.capacity < 2 ^ 64)
    → sum_by held_out txs ≤ outputs_in txs * 2 ^ 64
unfolding held_out
held-all [] each = omega arith
held-all (t ∷ later) each =
    let here = held-outputs t.raw.outputs (λ index output found. each 0 t index output refl found) in
    let rest = held-all later (λ place other index output there found. each (suc place) other index output there found) in
    omega (arith, here, rest, sum_by-cons held_out t later, sum_by-cons (λ (t : Transaction). length t.raw.outputs) t later)

held-small : (b : Block) → IsCanonical b → sum_by held_out b.transactions < 2 ^ 97
held-small b canonical =
    let few = outputs-are-few b canonical in
    let held = held-all b.transactions (λ place t index output there found. capacity-fits b place t index output canonical there found) in
    omega (arith, few, held)

-- ---- And occupy

occupied-outputs : (t : Transaction) (index : ℕ) (outputs : List CellOutput) → list_all (output_holds_its_own t) (enumerate_from index outputs) ≡ true
    → sum_by (occupied_output t) (enumerate_from index outputs) ≤ sum_by (λ (output : CellOutput). output.capacity) outputs
occupied-outputs t index [] all = omega arith
occupied-outputs t index (output ∷ later) all =
    let both = and_parts (nat_le (occupied_by output (data_of t index)) output.capacity) (list_all (output_holds_its_own t) (enumerate_from (index + 1) later)) all in
    let here : occupied_output t (index, output) ≤ output.capacity = leb-true (occupied_by output (data_of t index)) output.capacity both.0 in
    let rest = occupied-outputs t (index + 1) later both.1 in
    omega (arith, here, rest, sum_by-cons (occupied_output t) (index, output) (enumerate_from (index + 1) later), sum_by-cons (λ (output : CellOutput). output.capacity) output later)

occupied-held : (t : Transaction) → IsTrue (outputs_hold_their_own t) → made_by t ≤ held_out t
unfolding made_by held_out
occupied-held t own = occupied-outputs t 0 t.raw.outputs own

occupied-all : (txs : List Transaction) → list_all outputs_hold_their_own txs ≡ true → sum_by made_by txs ≤ sum_by held_out txs
occupied-all [] all = omega arith
occupied-all (t ∷ later) all =
    let both = and_parts (outputs_hold_their_own t) (list_all outputs_hold_their_own later) all in
    omega (arith, occupied-held t both.0, occupied-all later both.1, sum_by-cons made_by t later, sum_by-cons held_out t later)

-- ---- Along a branch

last-fits : (blocks : List Block) (place : ℕ) → AreCanonical blocks → place < length blocks → Fits (last_field (branch blocks place))
last-fits blocks place canonical below =
    let here = slice_get-below blocks place below in
    subst (λ (found : Option Block). Fits (field_of_bytes (dao_of found))) (sym (branch-last blocks place below ∙ here.1)) (field-fits here.0 (canonical place here.0 here.1))

first-alone : (blocks : List Block) (genesis : Block) → block_at blocks 0 ≡ Some genesis → branch blocks 0 ≡ genesis ∷ []
unfolding branch_places
first-alone [] genesis there = absurd (cc)
first-alone (first ∷ later) genesis there = ap (λ (b : Block). b ∷ []) (same_Some first genesis there)

-- the sums of the genesis of a chain
start-sums : (chain : Chain) (joined : IsJoined chain) → sums_of chain.spec (branch chain.blocks 0)
    ≡ record { live = sum_by held_out joined.genesis.transactions; occupied = sum_by made_by joined.genesis.transactions; unpaid = 0; burned = 0 }
start-sums chain joined =
    ap (sums_of chain.spec) (first-alone chain.blocks joined.genesis joined.first) ∙ starts-with-its-outputs chain.spec joined.genesis joined.good

pub sums-are-small : SumsAreSmall
unfolding supply_balance occupied_balance
sums-are-small chain place joined keeps canonical below =
    let issued = (last-fits chain.blocks place canonical below).issued in
    let saved = (last-fits chain.blocks 0 canonical (slice_get_within chain.blocks 0 joined.genesis joined.first)).savings in
    let occupied = (last-fits chain.blocks place canonical below).occupied in
    let live : live_capacity (branch chain.blocks 0) ≡ sum_by held_out joined.genesis.transactions = ap (λ (s : Sums). s.live) (start-sums chain joined) in
    let live_occupied_is : live_occupied (branch chain.blocks 0) ≡ sum_by made_by joined.genesis.transactions = ap (λ (s : Sums). s.occupied) (start-sums chain joined) in
    let unpaid_is : unpaid chain.spec (branch chain.blocks 0) ≡ 0 = ap (λ (s : Sums). s.unpaid) (start-sums chain joined) in
    let burned_is : burned chain.spec (branch chain.blocks 0) ≡ 0 = ap (λ (s : Sums). s.burned) (start-sums chain joined) in
    let small = held-small joined.genesis (canonical 0 joined.genesis joined.first) in
    let less = occupied-all joined.genesis.transactions (capacity-good joined.genesis joined.good) in
    let all = nothing-is-lost chain place joined keeps below in
    let room = occupied-stays chain place joined below in
    record {
      live = omega (arith, ints, issued, saved, live, unpaid_is, burned_is, small, all);
      occupied = omega (arith, ints, occupied, live_occupied_is, small, less, room);
      unpaid = omega (arith, ints, issued, saved, live, unpaid_is, burned_is, small, all);
      burned = omega (arith, ints, issued, saved, live, unpaid_is, burned_is, small, all);
    }

pub starts-small : StartsSmall
starts-small spec genesis good canonical =
    let small = held-small genesis canonical in
    let less = occupied-all genesis.transactions (capacity-good genesis good) in
    subst AreSmall (sym (starts-with-its-outputs spec genesis good)) (record {
      live = omega (arith, small);
      occupied = omega (arith, small, less);
      unpaid = omega arith;
      burned = omega arith;
    })
