-- What J9, J10 and J16 ask of a block with one transaction or one proposal id more.
use Rattle.std.proofs.Common.{◌≡◌, ℕ, ◌+◌, ◌-◌, ◌*◌, ◌<◌, Bool, true, false, List, [], ◌∷◌, ◌++◌, length, map, Option, Some, None, refl, sym, ap, ◌∙◌, true≢false, arith}
use Rattle.std.specs.Prelude.{◌&&◌, ◌||◌, not, nat_le, sum_by}
use Rattle.std.specs.Str.{bytes_eq}
use Rattle.std.specs.Int.{w128, to_le_bytes}
use Rattle.std.specs.List.{concat, list_any, AllByRecursion}
use Rattle.std.proofs.lemmas.Bool.{false_from_ne_true}
use Rattle.std.proofs.lemmas.Slice.Eq.{bytes_eq-Decides}
use Rattle.std.proofs.lemmas.List.{length-append, length_push}
use Rattle.std.proofs.lemmas.List.Folds.{list_any-append}
use Rattle.std.proofs.lemmas.List.Sums.{sum_by-cons, sum_by_push}
use Rattle.chain_defs.specs.Molecule as molecule
use Rattle.chain_defs.specs.Shape.{encoded, parts, dynvec, fixvec}
use Rattle.chain_defs.specs.Schema.{Transaction, transaction, Header, header, UncleBlock, uncle_block, Block, block, proposal_short_id}
use Rattle.chain_defs.proofs.MoleculeLaws.{length-dynvec, length-fixvec}
use Rattle.chain_defs.proofs.HashLemmas.{hashes-have-32}
use Rattle.chain_defs.specs.Specification.{Specification}
use Rattle.chain_defs.specs.Kept.{header_hash}
use Rattle.chain_defs.specs.Hashes.{transaction_hash, are_distinct}
use Rattle.rule_defs.specs.Header.{parent_of}
use Rattle.rule_defs.specs.Body.{counted_length, has_proposals}
use Rattle.rule_defs.specs.Cellbase.{is_cellbase, begins_with_cellbase, has_cellbase}
use Rattle.pool_defs.specs.Start.{header_after, hash_of_parent, zero_bytes}
use Rattle.pool_defs.specs.Size.{size_with}
use Rattle.pool_defs.specs.Assembly.{with_transaction, with_proposal}

-- ---- J9

pub size-transaction : (ts : List Transaction) (t : Transaction) (ids : List (List ℕ))
    → size_with (ts ++ t ∷ []) ids ≡ size_with ts ids + (4 + length (encoded transaction t))
unfolding size_with
size-transaction ts t ids = omega (arith, sum_by_push (λ (it : Transaction). 4 + length (encoded transaction it)) ts t)

pub size-id : (ts : List Transaction) (ids : List (List ℕ)) (id : List ℕ) → size_with ts (ids ++ id ∷ []) ≡ size_with ts ids + 10
unfolding size_with
size-id ts ids id = omega (arith, length_push ids id)

listed : (ts : List Transaction) → 4 * length (parts (map transaction.encoding ts)) + length (concat (parts (map transaction.encoding ts)))
    ≡ sum_by (λ t. 4 + length (encoded transaction t)) ts
listed [] = refl
listed (t ∷ ts) =
    let later = listed ts in
    let both = length-append (encoded transaction t) (concat (parts (map transaction.encoding ts))) in
    omega (arith, later, both, sum_by-cons (λ (it : Transaction). 4 + length (encoded transaction it)) t ts)

pub length-transactions : (ts : List Transaction) → length (encoded (dynvec transaction) ts) ≡ 4 + sum_by (λ t. 4 + length (encoded transaction t)) ts
unfolding molecule.full_size molecule.header_size
length-transactions ts = length-dynvec (parts (map transaction.encoding ts)) ∙ omega (arith, listed ts)

ids-by-ten : (ids : List (List ℕ)) → AllByRecursion (λ id. length id ≡ 10) ids → length (concat (parts (map proposal_short_id.encoding ids))) ≡ 10 * length ids
ids-by-ten [] each = refl
ids-by-ten (id ∷ ids) each =
    let later = ids-by-ten ids each.1 in
    omega (arith, later, each.0, length-append id (concat (parts (map proposal_short_id.encoding ids))))

pub length-ids : (ids : List (List ℕ)) → AllByRecursion (λ id. length id ≡ 10) ids → length (encoded (fixvec 10 proposal_short_id) ids) ≡ 4 + 10 * length ids
length-ids ids each = length-fixvec (parts (map proposal_short_id.encoding ids)) ∙ omega (arith, ids-by-ten ids each)

pub length-block : (b : Block) → b.uncles ≡ [] → length (encoded header b.header) ≡ 208 → AllByRecursion (λ id. length id ≡ 10) b.proposals
    → length (encoded block b) ≡ size_with b.transactions b.proposals
unfolding block molecule.full_size molecule.header_size size_with
length-block b none head each =
    let uncles : length (encoded (dynvec uncle_block) b.uncles) ≡ 4 = ap (λ (list : List UncleBlock). length (encoded (dynvec uncle_block) list)) none ∙ length-dynvec [] in
    let txs = length-transactions b.transactions in
    let ids = length-ids b.proposals each in
    let last = length-append (encoded (fixvec 10 proposal_short_id) b.proposals) [] in
    let third = length-append (encoded (dynvec transaction) b.transactions) (encoded (fixvec 10 proposal_short_id) b.proposals ++ []) in
    let second = length-append (encoded (dynvec uncle_block) b.uncles) (encoded (dynvec transaction) b.transactions ++ (encoded (fixvec 10 proposal_short_id) b.proposals ++ [])) in
    let first = length-append (encoded header b.header)
    (encoded (dynvec uncle_block) b.uncles ++ (encoded (dynvec transaction) b.transactions ++ (encoded (fixvec 10 proposal_short_id) b.proposals ++ []))) in
    length-dynvec _ ∙ omega (arith, head, uncles, txs, ids, last, third, second, first)

parent-hash-32 : (parent : Option Block) → length (hash_of_parent parent) ≡ 32
unfolding zero_bytes header_hash
parent-hash-32 None = refl
parent-hash-32 (Some b) = hashes-have-32 _

header-length : (spec : Specification) (on : List Block) → length (encoded header (header_after spec on)) ≡ 208
unfolding header header_after zero_bytes
header-length spec on =
    omega (arith, length-append (hash_of_parent (parent_of on)) (zero_bytes ++ (zero_bytes ++ (zero_bytes ++ (zero_bytes ++ (to_le_bytes w128 0 ++ []))))), parent-hash-32 (parent_of on))

-- J9 counts all bytes of a block with no uncles.
pub counted-size : (spec : Specification) (on : List Block) (b : Block) → b.header ≡ header_after spec on → b.uncles ≡ []
    → AllByRecursion (λ id. length id ≡ 10) b.proposals → counted_length b ≡ size_with b.transactions b.proposals
counted-size spec on b head none each =
    let size = length-block b none (ap (λ (h : Header). length (encoded header h)) head ∙ header-length spec on) each in
    ap (λ (list : List UncleBlock). length (encoded block b) - 10 * sum_by (λ uncle. length uncle.proposals) list) none ∙ omega (arith, size)

-- ---- Lists with no value twice

same-both-ways : (a b : List ℕ) → bytes_eq a b ≡ bytes_eq b a
same-both-ways a b = by_test (bytes_eq a b) refl
  where
    by_test : (same : Bool) → bytes_eq a b ≡ same → bytes_eq a b ≡ bytes_eq b a
    by_test true is = is ∙ sym ((bytes_eq-Decides b a).1 (sym ((bytes_eq-Decides a b).0 is)))
    by_test false is = is ∙ sym (false_from_ne_true (bytes_eq b a) (λ other. true≢false (sym ((bytes_eq-Decides a b).1 (sym ((bytes_eq-Decides b a).0 other))) ∙ is)))

pub distinct-push : (values : List (List ℕ)) (value : List ℕ)
    → are_distinct (values ++ value ∷ []) ≡ (are_distinct values && not (list_any (λ other. bytes_eq other value) values))
distinct-push [] value = refl
distinct-push (first ∷ later) value =
    ap (λ (any : Bool). not any && are_distinct (later ++ value ∷ []))
    (list_any-append (λ other. bytes_eq other first) later (value ∷ []))
    ∙ ap (λ (same : Bool). not (list_any (λ other. bytes_eq other first) later || (same || false)) && are_distinct (later ++ value ∷ [])) (same-both-ways value first)
    ∙ ap (λ (rest : Bool). not (list_any (λ other. bytes_eq other first) later || (bytes_eq first value || false)) && rest) (distinct-push later value)
    ∙ by_cases (list_any (λ other. bytes_eq other first) later) (bytes_eq first value) (are_distinct later) (list_any (λ other. bytes_eq other value) later)
  where
    by_cases : (among same distinct again : Bool)
        → (not (among || (same || false)) && (distinct && not again)) ≡ ((not among && distinct) && not (same || again))
    by_cases true same distinct again = refl
    by_cases false true true again = refl
    by_cases false true false again = refl
    by_cases false false distinct again = refl

-- ---- J10

pub proposals-grow : (spec : Specification) (b : Block) (id : List ℕ) → has_proposals spec (with_proposal b id)
    ≡ (nat_le (length b.proposals + 1) spec.max_proposals && (are_distinct b.proposals && not (list_any (λ other. bytes_eq other id) b.proposals)))
proposals-grow spec b id =
    ap (λ (count : ℕ). nat_le count spec.max_proposals && are_distinct (b.proposals ++ id ∷ [])) (length_push b.proposals id)
    ∙ ap (λ (distinct : Bool). nat_le (length b.proposals + 1) spec.max_proposals && distinct) (distinct-push b.proposals id)

-- ---- J16

map-push : (ts : List Transaction) (t : Transaction) → map transaction_hash (ts ++ t ∷ []) ≡ map transaction_hash ts ++ transaction_hash t ∷ []
map-push [] t = refl
map-push (first ∷ later) t = ap (λ (list : List (List ℕ)). transaction_hash first ∷ list) (map-push later t)

begins-push : (ts : List Transaction) (t : Transaction) → 0 < length ts
    → begins_with_cellbase (ts ++ t ∷ []) ≡ (begins_with_cellbase ts && not (is_cellbase t))
begins-push [] t some = absurd (omega (arith, some))
begins-push (first ∷ later) t some =
    ap (λ (any : Bool). is_cellbase first && not any) (list_any-append is_cellbase later (t ∷ []))
    ∙ by_cases (is_cellbase first) (list_any is_cellbase later) (is_cellbase t)
  where
    by_cases : (begins again one : Bool) → (begins && not (again || (one || false))) ≡ ((begins && not again) && not one)
    by_cases false again one = refl
    by_cases true true one = refl
    by_cases true false true = refl
    by_cases true false false = refl

pub cellbase-grows : (b : Block) (t : Transaction) → 0 < length b.transactions → has_cellbase (with_transaction b t)
    ≡ (has_cellbase b && not (is_cellbase t || list_any (λ other. bytes_eq other (transaction_hash t)) (map transaction_hash b.transactions)))
unfolding has_cellbase
cellbase-grows b t some =
    ap (λ (begins : Bool). begins && are_distinct (map transaction_hash (b.transactions ++ t ∷ []))) (begins-push b.transactions t some)
    ∙ ap (λ (hashes : List (List ℕ)). (begins_with_cellbase b.transactions && not (is_cellbase t)) && are_distinct hashes) (map-push b.transactions t)
    ∙ ap (λ (distinct : Bool). (begins_with_cellbase b.transactions && not (is_cellbase t)) && distinct)
    (distinct-push (map transaction_hash b.transactions) (transaction_hash t))
    ∙ by_cases (begins_with_cellbase b.transactions) (is_cellbase t) (are_distinct (map transaction_hash b.transactions))
    (list_any (λ other. bytes_eq other (transaction_hash t)) (map transaction_hash b.transactions))
  where
    by_cases : (begins one distinct again : Bool)
        → ((begins && not one) && (distinct && not again)) ≡ ((begins && distinct) && not (one || again))
    by_cases false one distinct again = refl
    by_cases true true true again = refl
    by_cases true true false again = refl
    by_cases true false distinct again = refl
