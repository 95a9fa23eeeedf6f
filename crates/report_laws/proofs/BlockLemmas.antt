-- The block that is assembled is of its shape, where it keeps J9.
use Rattle.std.proofs.Common.{◌≡◌, ℕ, zero, suc, ◌+◌, ◌-◌, ◌*◌, ◌^◌, ◌<◌, ◌≤◌, Bool, true, false, cond, List, [], ◌∷◌, ◌++◌, length, map, Option, Some, None, refl, sym, ap, subst, arith}
use Rattle.std.specs.Prelude.{IsTrue, IfSome, nat_lt, nat_le, slice_get, sum_by}
use Rattle.std.specs.Option.{option_map, option_and_then}
use Rattle.std.specs.Int.{w64, to_le_bytes}
use Rattle.std.specs.List.{concat}
use Rattle.std.proofs.lemmas.Bool.{and_from, and_parts, lt-ltb, ltb-true, leb-true, eqb-true}
use Rattle.std.proofs.lemmas.List.{length-append}
use Rattle.std.proofs.lemmas.Option.{same_Some}
use Rattle.chain_defs.specs.Molecule as molecule
use Rattle.chain_defs.specs.Shape.{Encoding, are_bytes, encoded, decoded, parts, all_fit, table, u32, u64, bytes, dynvec, fixvec, option}
use Rattle.chain_defs.specs.Schema.{Script, script, CellOutput, cell_output, cell_dep, cell_input, out_point, raw_transaction, Transaction, transaction, Header, header, UncleBlock, uncle_block, Block, block, CellbaseWitness, cellbase_witness, byte32, proposal_short_id}
use Rattle.chain_defs.proofs.MoleculeLaws.{length-dynvec, length-fixvec}
use Rattle.chain_defs.proofs.ShapeLaws.{IsEncoding-decoded}
use Rattle.chain_defs.specs.Root.{node, node_within}
use Rattle.chain_defs.specs.Specification.{Specification, keeps_s2}
use Rattle.chain_defs.specs.Dao.{DaoField, field_bytes}
use Rattle.chain_defs.specs.Epochs.{epoch_field}
use Rattle.chain_defs.specs.Kept.{header_hash, block_at}
use Rattle.chain_defs.specs.Median.{median_time}
use Rattle.chain_defs.specs.Hashes.{transactions_root, proposals_hash, uncles_hash, hash_of_all}
use Rattle.rule_defs.specs.Header.{parent_of}
use Rattle.rule_defs.specs.Body.{counted_length, fits_length}
use Rattle.rule_defs.specs.Cellbase.{null_index, lock_named}
use Rattle.rule_defs.specs.Reward.{part}
use Rattle.rule_defs.specs.Payment.{Owed, NoOutput, Pays, Unpayable, occupied_with, owed_to, lock_of, owed_after}
use Rattle.rule_defs.specs.Field.{next_dao}
use Rattle.gen_defs.proofs.SizeLemmas.{Fits, hash-fits, low-bytes, append-bytes}
use Rattle.pool_defs.specs.Start.{owed_outputs, cellbase_input, cellbase, zero_bytes, hash_of_parent, next_timestamp, header_after, dao_bytes, committed}
use Rattle.report_laws.proofs.ByteLemmas.{witness-bytes}
use Rattle.report_laws.proofs.NumberLemmas.{timestamp-fits, epoch-fits}

-- ---- Parts of a table

in-concat : (ps : List (List ℕ)) (i : ℕ) (p : List ℕ) → slice_get ps i ≡ Some p → length p ≤ length (concat ps)
in-concat [] i p there = absurd (cc)
in-concat (q ∷ ps) zero p there = let same = ap length (same_Some q p there) in omega (arith, length-append q (concat ps), same)
in-concat (q ∷ ps) (suc i) p there = let rest = in-concat ps i p there in omega (arith, rest, length-append q (concat ps))

part-short : (ps : List (List ℕ)) (i : ℕ) (p : List ℕ) → slice_get ps i ≡ Some p → length (molecule.dynvec ps) < 2 ^ 32 → length p < 2 ^ 32
unfolding molecule.full_size molecule.header_size
part-short ps i p there short = let within = in-concat ps i p there in omega (arith, short, within, length-dynvec ps)

short-table : (fields : List Encoding) → length (molecule.dynvec (parts fields)) < 2 ^ 32 → IsTrue (all_fit fields) → IsTrue (table fields).fits
short-table fields short all = and_from _ _ (lt-ltb (length (molecule.dynvec (parts fields))) (2 ^ 32) short) all

-- ---- What is owed

abbrev OwedFits : Owed → Type 0
OwedFits NoOutput = Unit {0}
OwedFits (Pays lock capacity) = (capacity < 2 ^ 64) × IsTrue (script.encoding lock).fits
OwedFits Unpayable = Unit {0}

owed-fits : (found : Option Script) (reward : ℕ) → IfSome found (λ lock. IsTrue (script.encoding lock).fits) → OwedFits (owed_to found reward)
owed-fits None reward fit = tt
owed-fits (Some lock) reward fit = by_test (nat_lt reward (2 ^ 64)) refl (nat_le (occupied_with lock) reward)
  where
    by_test : (small : Bool) → nat_lt reward (2 ^ 64) ≡ small → (enough : Bool) → OwedFits (cond small (cond enough (Pays lock reward) NoOutput) Unpayable)
    by_test true is true = (ltb-true reward (2 ^ 64) is, fit)
    by_test true is false = tt
    by_test false is enough = tt

lock-in : (w : CellbaseWitness) → IsTrue (cellbase_witness.encoding w).fits → IsTrue (script.encoding w.lock).fits
unfolding cellbase_witness
lock-in w fits = (and_parts _ _ (and_parts _ _ fits).1).0

named-fits : (t : Transaction) → IfSome (lock_named t) (λ lock. IsTrue (script.encoding lock).fits)
named-fits t = by_witness (slice_get t.witnesses 0)
  where
    by_decoded : (item : List ℕ) (found : Option CellbaseWitness) → decoded cellbase_witness item ≡ found
        → IfSome (option_map (λ (w : CellbaseWitness). w.lock) found) (λ lock. IsTrue (script.encoding lock).fits)
    by_decoded item None is = tt
    by_decoded item (Some w) is = lock-in w (IsEncoding-decoded cellbase_witness item w is).fits

    by_witness : (found : Option (List ℕ))
        → IfSome (option_map (λ (w : CellbaseWitness). w.lock) (option_and_then (decoded cellbase_witness) found)) (λ lock. IsTrue (script.encoding lock).fits)
    by_witness None = tt
    by_witness (Some item) = by_decoded item (decoded cellbase_witness item) refl

lock-fits : (found : Option Block) → IfSome (lock_of found) (λ lock. IsTrue (script.encoding lock).fits)
lock-fits None = tt
lock-fits (Some b) = by_first (slice_get b.transactions 0)
  where
    by_first : (found : Option Transaction) → IfSome (option_and_then lock_named found) (λ lock. IsTrue (script.encoding lock).fits)
    by_first None = tt
    by_first (Some t) = named-fits t

owed-after-fits : (spec : Specification) (on : List Block) → OwedFits (owed_after spec on)
unfolding owed_after
owed-after-fits spec on = by_test (nat_le (length on) (spec.w_far + 1))
  where
    by_test : (early : Bool) → OwedFits (cond early NoOutput (owed_to (lock_of (block_at on (length on - (spec.w_far + 1)))) (part spec on (length on - (spec.w_far + 1)))))
    by_test true = tt
    by_test false = owed-fits (lock_of (block_at on (length on - (spec.w_far + 1)))) (part spec on (length on - (spec.w_far + 1))) (lock-fits (block_at on (length on - (spec.w_far + 1))))

output-fits : (lock : Script) (capacity : ℕ) → capacity < 2 ^ 64 → IsTrue (script.encoding lock).fits
    → length (encoded cell_output (record { capacity = capacity; lock = lock; type_script = None })) < 2 ^ 32
    → IsTrue (cell_output.encoding (record { capacity = capacity; lock = lock; type_script = None })).fits
unfolding cell_output
output-fits lock capacity few locked short =
    short-table (u64.encoding capacity ∷ script.encoding lock ∷ (option script).encoding None ∷ []) short
    (and_from _ _ (lt-ltb capacity (2 ^ 64) few) (and_from _ _ locked refl))

outputs-fit : (o : Owed) → OwedFits o → length (encoded (dynvec cell_output) (owed_outputs o)) < 2 ^ 32 → IsTrue ((dynvec cell_output).encoding (owed_outputs o)).fits
outputs-fit NoOutput fit short = short-table [] short refl
outputs-fit (Pays lock capacity) fit short =
    let out : CellOutput = record { capacity = capacity; lock = lock; type_script = None } in
    short-table (cell_output.encoding out ∷ []) short
    (and_from _ _ (output-fits lock capacity fit.0 fit.1 (part-short (encoded cell_output out ∷ []) 0 (encoded cell_output out) refl short)) refl)
outputs-fit Unpayable fit short = short-table [] short refl

contents-fit : (o : Owed) → length (encoded (dynvec bytes) (map (λ output. []) (owed_outputs o))) < 2 ^ 32
    → IsTrue ((dynvec bytes).encoding (map (λ output. []) (owed_outputs o))).fits
contents-fit NoOutput short = short-table [] short refl
contents-fit (Pays lock capacity) short = short-table (bytes.encoding [] ∷ []) short refl
contents-fit Unpayable short = short-table [] short refl

-- ---- The cellbase

singles-long : (content : List ℕ) → length (concat (map (λ b. b ∷ []) content)) ≡ length content
singles-long [] = refl
singles-long (b ∷ content) = ap suc (singles-long content)

content-fits : (content : List ℕ) → IsTrue (are_bytes content) → length (encoded bytes content) < 2 ^ 32 → IsTrue (bytes.encoding content).fits
content-fits content are short =
    let long = length-fixvec (map (λ b. b ∷ []) content) in
    let all = singles-long content in
    let few : length content < 2 ^ 32 = omega (arith, short, long, all) in
    and_from _ _ (lt-ltb (length content) (2 ^ 32) few) are

input-fits : (height : ℕ) → height < 2 ^ 64 → IsTrue (cell_input.encoding (cellbase_input height)).fits
unfolding cell_input out_point null_index
input-fits height few = and_from _ _ (lt-ltb height (2 ^ 64) few) refl

raw-fits : (spec : Specification) (on : List Block) (w : CellbaseWitness) → length on < 2 ^ 64 → length (encoded raw_transaction (cellbase spec on w).raw) < 2 ^ 32
    → IsTrue (raw_transaction.encoding (cellbase spec on w).raw).fits
unfolding raw_transaction cellbase
raw-fits spec on w high short =
    let o : Owed = owed_after spec on in
    let fields : List Encoding =
    u32.encoding 0 ∷ (fixvec 37 cell_dep).encoding [] ∷ (fixvec 32 byte32).encoding [] ∷ (fixvec 44 cell_input).encoding (cellbase_input (length on) ∷ [])
    ∷ (dynvec cell_output).encoding (owed_outputs o) ∷ (dynvec bytes).encoding (map (λ output. []) (owed_outputs o)) ∷ [] in
    short-table fields short
    (and_from _ _ refl (and_from _ _ refl (and_from _ _ refl (and_from _ _ (and_from _ _ refl (and_from _ _ (input-fits (length on) high) refl))
    (and_from _ _ (outputs-fit o (owed-after-fits spec on) (part-short (parts fields) 4 (encoded (dynvec cell_output) (owed_outputs o)) refl short))
    (and_from _ _ (contents-fit o (part-short (parts fields) 5 (encoded (dynvec bytes) (map (λ output. []) (owed_outputs o))) refl short)) refl))))))

pub cellbase-fits : (spec : Specification) (on : List Block) (w : CellbaseWitness) → length on < 2 ^ 64 → IsTrue (cellbase_witness.encoding w).fits
    → length (encoded transaction (cellbase spec on w)) < 2 ^ 32 → IsTrue (transaction.encoding (cellbase spec on w)).fits
unfolding transaction cellbase
cellbase-fits spec on w high fits short =
    let content : List ℕ = encoded cellbase_witness w in
    let content_are = witness-bytes w fits in
    let fields : List Encoding = raw_transaction.encoding (cellbase spec on w).raw ∷ (dynvec bytes).encoding (content ∷ []) ∷ [] in
    let witnesses_short = part-short (parts fields) 1 (encoded (dynvec bytes) (content ∷ [])) refl short in
    short-table fields short
    (and_from _ _ (raw-fits spec on w high (part-short (parts fields) 0 (encoded raw_transaction (cellbase spec on w).raw) refl short))
    (and_from _ _ (short-table (bytes.encoding content ∷ []) witnesses_short
    (and_from _ _ (content-fits content content_are (part-short (encoded bytes content ∷ []) 0 (encoded bytes content) refl witnesses_short)) refl)) refl))

-- ---- The header

zeros-fit : Fits (byte32.encoding zero_bytes) 32
unfolding zero_bytes
zeros-fit = record { fits = refl; size = refl }

parent-fits : (parent : Option Block) → Fits (byte32.encoding (hash_of_parent parent)) 32
unfolding header_hash
parent-fits None = zeros-fit
parent-fits (Some b) = hash-fits _

all-fits : (values : List (List ℕ)) → Fits (byte32.encoding (hash_of_all values)) 32
all-fits [] = record { fits = refl; size = refl }
all-fits (first ∷ later) = hash-fits _

root-fits : (ts : List Transaction) → Fits (byte32.encoding (transactions_root ts)) 32
unfolding transactions_root node node_within
root-fits ts = hash-fits _

proposals-fit : (ids : List (List ℕ)) → Fits (byte32.encoding (proposals_hash ids)) 32
unfolding proposals_hash
proposals-fit ids = all-fits ids

uncles-fit : (uncles : List UncleBlock) → Fits (byte32.encoding (uncles_hash uncles)) 32
unfolding uncles_hash
uncles-fit uncles = all-fits _

field-fits : (field : Option DaoField) → Fits (byte32.encoding (dao_bytes field)) 32
unfolding field_bytes
field-fits None = zeros-fit
field-fits (Some field) =
    let last : List ℕ = to_le_bytes w64 field.occupied in
    let third : List ℕ = to_le_bytes w64 field.savings in
    let second : List ℕ = to_le_bytes w64 field.rate in
    let first : List ℕ = to_le_bytes w64 field.issued in
    let are : IsTrue (are_bytes (first ++ (second ++ (third ++ last)))) =
    append-bytes first (second ++ (third ++ last)) (low-bytes 0 8 field.issued) (append-bytes second (third ++ last) (low-bytes 0 8 field.rate)
    (append-bytes third last (low-bytes 0 8 field.savings) (low-bytes 0 8 field.occupied))) in
    record { fits = and_from _ _ refl are; size = refl }

pub header-fits : (spec : Specification) (on : List Block) (b : Block) → b.header ≡ header_after spec on → spec.compact_target < 2 ^ 32 → IsTrue (keeps_s2 spec.epoch_length)
    → length on < 2 ^ 24 → median_time on < 2 ^ 64 → IsTrue (header.encoding (committed spec on b)).fits
unfolding header header_after committed
header-fits spec on b is target size high median =
    subst (λ (h : Header). IsTrue (header.encoding (record h {
      transactions_root = transactions_root b.transactions;
      proposals_hash = proposals_hash b.proposals;
      uncles_hash = uncles_hash b.uncles;
      dao = dao_bytes (next_dao spec on b);
    })).fits) (sym is) here
  where
    here : IsTrue (header.encoding (record (header_after spec on) {
      transactions_root = transactions_root b.transactions;
      proposals_hash = proposals_hash b.proposals;
      uncles_hash = uncles_hash b.uncles;
      dao = dao_bytes (next_dao spec on b);
    })).fits
    here =
        and_from _ _ refl (and_from _ _ (lt-ltb spec.compact_target (2 ^ 32) target)
        (and_from _ _ (lt-ltb (next_timestamp (median_time on)) (2 ^ 64) (timestamp-fits (median_time on) median))
        (and_from _ _ (lt-ltb (length on) (2 ^ 64) (omega (arith, high)))
        (and_from _ _ (lt-ltb (epoch_field spec.epoch_length (length on)) (2 ^ 64) (epoch-fits spec.epoch_length (length on) size high))
        (and_from _ _ (parent-fits (parent_of on)).fits (and_from _ _ (root-fits b.transactions).fits (and_from _ _ (proposals-fit b.proposals).fits
        (and_from _ _ (uncles-fit b.uncles).fits (and_from _ _ (field-fits (next_dao spec on b)).fits (and_from _ _ refl refl))))))))))

-- ---- The block

ids-long : (ids : List (List ℕ)) → IsTrue (all_fit (map proposal_short_id.encoding ids)) → length (concat (parts (map proposal_short_id.encoding ids))) ≡ 10 * length ids
ids-long [] all = refl
ids-long (id ∷ ids) all =
    let both = and_parts _ _ all in
    let here = eqb-true (length id) 10 (and_parts _ _ both.0).0 in
    let later = ids-long ids both.1 in
    omega (arith, here, later, length-append id (concat (parts (map proposal_short_id.encoding ids))))

ids-fit : (ids : List (List ℕ)) → IsTrue (all_fit (map proposal_short_id.encoding ids)) → length (encoded (fixvec 10 proposal_short_id) ids) < 2 ^ 32
    → IsTrue ((fixvec 10 proposal_short_id).encoding ids).fits
ids-fit ids all short =
    let few : length ids < 2 ^ 32 = omega (arith, short, length-fixvec (parts (map proposal_short_id.encoding ids)), ids-long ids all) in
    and_from _ _ (lt-ltb (length ids) (2 ^ 32) few) all

no-uncles-fit : IsTrue ((dynvec uncle_block).encoding []).fits
unfolding molecule.dynvec molecule.full_size molecule.header_size molecule.offsets
no-uncles-fit = refl

transactions-fit : (ts : List Transaction) (first : Transaction) (later : List Transaction) → ts ≡ first ∷ later
    → (length (encoded transaction first) < 2 ^ 32 → IsTrue (transaction.encoding first).fits) → IsTrue (all_fit (map transaction.encoding later))
    → length (encoded (dynvec transaction) ts) < 2 ^ 32 → IsTrue ((dynvec transaction).encoding ts).fits
transactions-fit ts first later are one all short =
    subst (λ (list : List Transaction). IsTrue ((dynvec transaction).encoding list).fits) (sym are)
    (short-table (map transaction.encoding (first ∷ later)) here
    (and_from _ _ (one (part-short (parts (map transaction.encoding (first ∷ later))) 0 (encoded transaction first) refl here)) all))
  where
    here : length (encoded (dynvec transaction) (first ∷ later)) < 2 ^ 32
    here = subst (λ (list : List Transaction). length (encoded (dynvec transaction) list) < 2 ^ 32) are short

pub block-fits : (b : Block) (first : Transaction) (later : List Transaction) → IsTrue (header.encoding b.header).fits → b.uncles ≡ [] → b.transactions ≡ first ∷ later
    → (length (encoded transaction first) < 2 ^ 32 → IsTrue (transaction.encoding first).fits) → IsTrue (all_fit (map transaction.encoding later))
    → IsTrue (all_fit (map proposal_short_id.encoding b.proposals)) → length (encoded block b) < 2 ^ 32 → IsTrue (block.encoding b).fits
unfolding block
block-fits b first later head none are one all ids short =
    let fields : List Encoding =
    header.encoding b.header ∷ (dynvec uncle_block).encoding b.uncles ∷ (dynvec transaction).encoding b.transactions ∷ (fixvec 10 proposal_short_id).encoding b.proposals ∷ [] in
    short-table fields short
    (and_from _ _ head (and_from _ _ (subst (λ (uncles : List UncleBlock). IsTrue ((dynvec uncle_block).encoding uncles).fits) (sym none) no-uncles-fit)
    (and_from _ _ (transactions-fit b.transactions first later are one all (part-short (parts fields) 2 (encoded (dynvec transaction) b.transactions) refl short))
    (and_from _ _ (ids-fit b.proposals ids (part-short (parts fields) 3 (encoded (fixvec 10 proposal_short_id) b.proposals) refl short)) refl))))

pub whole-short : (spec : Specification) (b : Block) → b.uncles ≡ [] → spec.max_block_bytes < 2 ^ 32 → IsTrue (fits_length spec b) → length (encoded block b) < 2 ^ 32
whole-short spec b none most fits =
    let counted = leb-true (counted_length b) spec.max_block_bytes fits in
    let all = ap (λ (list : List UncleBlock). length (encoded block b) - 10 * sum_by (λ uncle. length uncle.proposals) list) none in
    omega (arith, counted, all, most)
