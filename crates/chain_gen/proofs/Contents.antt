-- What the blocks of a height hold, by the parts that the calls give.
use Rattle.std.proofs.Common.{◌≡◌, ℕ, zero, suc, ◌+◌, ◌-◌, Bool, true, false, List, [], ◌∷◌, ◌++◌, Option, Some, None, map, refl, ap, sym, ◌∙◌, arith}
use Rattle.std.specs.Prelude.{is_some, IfSome, unwrap_or, if◌then◌else◌}
use Rattle.std.proofs.lemmas.Bool.Decides.{nat_tests}
use Rattle.std.specs.List.{range_with_len}
use Rattle.std.proofs.lemmas.List.{map-append}
use Rattle.chain_defs.specs.Molecule as molecule
use Rattle.chain_defs.specs.Shape.{Shape, encoded, fixvec, dynvec}
use Rattle.chain_defs.specs.Schema as schema
use Rattle.chain_defs.specs.Root.{root}
use Rattle.chain_defs.specs.Dao.{DaoField, next_field}
use Rattle.chain_defs.specs.Hashes.{transaction_hash, witness_hash, transactions_root, proposal_id}
use Rattle.mol_rows.specs.Rows.{BlockHasParts}
use Rattle.gen_defs.specs.Start as start
use Rattle.gen_defs.specs.Heights.{Coin, commits, proposes, transfer, transferred, coin_after, field_after, movement_at, cellbase, transactions_at, proposals_at}
use Rattle.gen_defs.specs.Chain.{child, block_after, block_made, blocks_made}
use Rattle.chain_gen.specs.declared.heights.After.{After}
use Rattle.chain_gen.specs.Known.{IsTx}
use Rattle.chain_gen.specs.Content.{listed, after_height}
use Rattle.chain_gen.proofs.Parts.{no_items, no_parts}
use Rattle.chain_gen.proofs.Headers.{root_of_both}

-- ---- Encodings of lists

pub encodings_are : {V : Type 0} (shape : Shape V) (values : List V) → map (encoded shape) values ≡ map (λ x. x.bytes) (map shape.encoding values)
encodings_are shape [] = refl
encodings_are shape (value ∷ values) = ap (λ (l : List (List ℕ)). encoded shape value ∷ l) (encodings_are shape values)

-- ---- The transactions

abbrev pub chosen : Bool → schema.Transaction → List schema.Transaction
chosen there t = if there then t ∷ [] else []

-- what is kept of a transaction that may be there
pub record AreListed {X : Type 0} (bytes hash with_witnesses : X → List ℕ) (found : Option X) (there : Bool) (t : schema.Transaction) : Type 0 where
  pub bytes_are : map bytes (listed found) ≡ map (encoded schema.transaction) (chosen there t)
  pub hashes_are : map hash (listed found) ≡ map transaction_hash (chosen there t)
  pub witness_hashes_are : map with_witnesses (listed found) ≡ map witness_hash (chosen there t)

pub are_listed : {X : Type 0} (bytes hash with_witnesses : X → List ℕ) (found : Option X) (there : Bool) (t : schema.Transaction) → is_some found ≡ there
    → IfSome found (λ x. IsTx t (bytes x) (hash x) (with_witnesses x)) → AreListed bytes hash with_witnesses found there t
are_listed bytes hash with_witnesses None true t is tx = absurd (cc)
are_listed bytes hash with_witnesses None false t is tx = record { bytes_are = refl; hashes_are = refl; witness_hashes_are = refl }
are_listed bytes hash with_witnesses (Some x) false t is tx = absurd (cc)
are_listed bytes hash with_witnesses (Some x) true t is tx = record {
  bytes_are = ap (λ (l : List ℕ). l ∷ []) tx.bytes_are;
  hashes_are = ap (λ (l : List ℕ). l ∷ []) tx.hash_is;
  witness_hashes_are = ap (λ (l : List ℕ). l ∷ []) tx.witness_hash_is;
}

pub list_is : (height : ℕ) {list first : List ℕ} {more : List (List ℕ)} → list ≡ molecule.dynvec (first ∷ more) → first ≡ encoded schema.transaction (cellbase height)
    → more ≡ map (encoded schema.transaction) (chosen (commits height) (transfer (coin_after (height - 1)))) → list ≡ encoded (dynvec schema.transaction) (transactions_at height)
unfolding transactions_at
list_is height {more = more} is first_is more_is =
    is ∙ ap (λ (l : List ℕ). molecule.dynvec (l ∷ more)) first_is
    ∙ ap (λ (l : List (List ℕ)). molecule.dynvec (encoded schema.transaction (cellbase height) ∷ l)) more_is
    ∙ ap molecule.dynvec (encodings_are schema.transaction (cellbase height ∷ chosen (commits height) (transfer (coin_after (height - 1)))))

pub top_is : (height : ℕ) {top hash with_witnesses : List ℕ} {hashes witness_hashes : List (List ℕ)}
    → top ≡ root (root (hash ∷ hashes) ∷ root (with_witnesses ∷ witness_hashes) ∷ []) → hash ≡ transaction_hash (cellbase height) → with_witnesses ≡ witness_hash (cellbase height)
    → hashes ≡ map transaction_hash (chosen (commits height) (transfer (coin_after (height - 1))))
    → witness_hashes ≡ map witness_hash (chosen (commits height) (transfer (coin_after (height - 1)))) → top ≡ transactions_root (transactions_at height)
unfolding transactions_at
top_is height {hashes = hashes} {witness_hashes = witness_hashes} is hash_is with_is hashes_are witness_hashes_are =
    root_of_both (cellbase height ∷ chosen (commits height) (transfer (coin_after (height - 1)))) refl refl is
    (ap (λ (l : List ℕ). l ∷ hashes) hash_is ∙ ap (λ (l : List (List ℕ)). transaction_hash (cellbase height) ∷ l) hashes_are)
    (ap (λ (l : List ℕ). l ∷ witness_hashes) with_is ∙ ap (λ (l : List (List ℕ)). witness_hash (cellbase height) ∷ l) witness_hashes_are)

-- ---- The proposals

-- a height after one that proposes commits nothing
waits : (height : ℕ) → proposes height ≡ true → commits (suc height) ≡ false
waits height is = grind (arith, nat_tests)

coin_waits : (height : ℕ) → proposes height ≡ true → coin_after (suc height) ≡ coin_after height
unfolding coin_after
coin_waits height is = ap (λ (there : Bool). if there then transferred (coin_after height) else coin_after height) (waits height is)

pub ids_are : (height : ℕ) {ids : List (List ℕ)} {coin : Coin} → coin ≡ coin_after height → ids ≡ (if proposes height then proposal_id (transfer coin) ∷ [] else [])
    → ids ≡ proposals_at height
unfolding proposals_at
ids_are height {coin = coin} coin_is is =
    is ∙ ap (λ (c : Coin). if proposes height then proposal_id (transfer c) ∷ [] else []) coin_is ∙ by_test (proposes height) refl
  where
    next : suc height ≡ height + 1
    next = omega arith

    by_test : (there : Bool) → proposes height ≡ there
        → (if there then proposal_id (transfer (coin_after height)) ∷ [] else []) ≡ (if there then proposal_id (transfer (coin_after (height + 1))) ∷ [] else [])
    by_test false there = refl
    by_test true there = ap (λ (c : Coin). proposal_id (transfer c) ∷ []) (sym (coin_waits height there) ∙ ap coin_after next)

same_ids : (ids : List (List ℕ)) → ids ≡ map (encoded schema.proposal_short_id) ids
same_ids [] = refl
same_ids (id ∷ ids) = ap (λ (l : List (List ℕ)). id ∷ l) (same_ids ids)

pub id_list_is : (height : ℕ) {list : List ℕ} {ids : List (List ℕ)} → list ≡ molecule.fixvec ids → ids ≡ proposals_at height
    → list ≡ encoded (fixvec 10 schema.proposal_short_id) (proposals_at height)
id_list_is height is ids_are =
    is ∙ ap molecule.fixvec (ids_are ∙ same_ids (proposals_at height) ∙ encodings_are schema.proposal_short_id (proposals_at height))

-- ---- What comes after

coin_step : (before : ℕ) → coin_after (suc before) ≡ (if commits (suc before) then transferred (coin_after before) else coin_after before)
unfolding coin_after
coin_step before = refl

field_step : (before : ℕ) → field_after (suc before) ≡ unwrap_or (next_field (field_after before) (movement_at (suc before))) (field_after before)
unfolding field_after
field_step before = refl

pub coin_is : (height before : ℕ) {old coin : Coin} (there : Bool) → height ≡ suc before → old ≡ coin_after before → there ≡ commits height
    → coin ≡ (if there then transferred old else old) → coin ≡ coin_after height
coin_is height before there is old_is there_is value_is =
    value_is ∙ ap (λ (c : Coin). if there then transferred c else c) old_is
    ∙ ap (λ (t : Bool). if t then transferred (coin_after before) else coin_after before) (there_is ∙ ap commits is)
    ∙ sym (coin_step before) ∙ ap coin_after (sym is)

pub field_is : (height before : ℕ) {old field : DaoField} → height ≡ suc before → old ≡ field_after before
    → field ≡ unwrap_or (next_field old (movement_at height)) old → field ≡ field_after height
field_is height before is old_is value_is =
    value_is ∙ ap (λ (f : DaoField). unwrap_or (next_field f (movement_at height)) f) old_is
    ∙ ap (λ (h : ℕ). unwrap_or (next_field (field_after before) (movement_at h)) (field_after before)) is
    ∙ sym (field_step before) ∙ ap field_after (sym is)

abbrev from : Coin → DaoField → After
from coin field = record { coin = coin; field = field }

pub after_is : (height : ℕ) {coin : Coin} {field : DaoField} → coin ≡ coin_after height → field ≡ field_after height → from coin field ≡ after_height height
after_is height {field = field} coin_is field_is = ap (λ (c : Coin). from c field) coin_is ∙ ap (λ (f : DaoField). from (coin_after height) f) field_is

-- ---- Blocks

pub genesis_parts_are : (header transactions : List ℕ) → header ≡ encoded schema.header start.genesis.header
    → transactions ≡ molecule.dynvec (encoded schema.transaction start.genesis_transaction ∷ [])
    → BlockHasParts start.genesis header (4 ∷ 0 ∷ 0 ∷ 0 ∷ []) transactions (0 ∷ 0 ∷ 0 ∷ 0 ∷ [])
unfolding start.genesis
genesis_parts_are header transactions header_is transactions_are = record {
  header_is = header_is;
  uncles_are = no_parts;
  transactions_are = transactions_are;
  proposals_are = no_items;
}

pub child_parts_are : (parent : schema.Block) (i : ℕ) {header transactions proposals : List ℕ} → header ≡ encoded schema.header (child parent i).header
    → transactions ≡ encoded (dynvec schema.transaction) (transactions_at (parent.header.number + 1))
    → proposals ≡ encoded (fixvec 10 schema.proposal_short_id) (proposals_at (parent.header.number + 1))
    → BlockHasParts (child parent i) header (4 ∷ 0 ∷ 0 ∷ 0 ∷ []) transactions proposals
unfolding block_after
child_parts_are parent i header_is transactions_are proposals_are = record {
  header_is = header_is;
  uncles_are = no_parts;
  transactions_are = transactions_are;
  proposals_are = proposals_are;
}

range_push : (a n : ℕ) → range_with_len a (suc n) ≡ range_with_len a n ++ (a + n) ∷ []
range_push a zero = let same : a ≡ a + 0 = omega arith in ap (λ (k : ℕ). k ∷ []) same
range_push a (suc n) =
    let same : a + 1 + n ≡ a + suc n = omega arith in
    ap (λ (l : List ℕ). a ∷ l) (range_push (a + 1) n ∙ ap (λ (k : ℕ). range_with_len (a + 1) n ++ k ∷ []) same)

pub one_block_more : (seed i : ℕ) → map (encoded schema.block) (blocks_made seed (i + 1)) ≡ map (encoded schema.block) (blocks_made seed i) ++ encoded schema.block (block_made seed (i + 1)) ∷ []
unfolding blocks_made
one_block_more seed i =
    let next : i + 1 ≡ suc i = omega arith in
    let place : 1 + i ≡ i + 1 = omega arith in
    ap (λ (n : ℕ). map (encoded schema.block) (map (block_made seed) (range_with_len 1 n))) next
    ∙ ap (λ (l : List ℕ). map (encoded schema.block) (map (block_made seed) l)) (range_push 1 i)
    ∙ ap (map (encoded schema.block)) (map-append (block_made seed) (range_with_len 1 i) ((1 + i) ∷ []))
    ∙ map-append (encoded schema.block) (map (block_made seed) (range_with_len 1 i)) (block_made seed (1 + i) ∷ [])
    ∙ ap (λ (n : ℕ). map (encoded schema.block) (map (block_made seed) (range_with_len 1 i)) ++ encoded schema.block (block_made seed n) ∷ []) place

pub no_blocks : (seed : ℕ) → blocks_made seed 0 ≡ []
unfolding blocks_made
no_blocks seed = refl

pub genesis_hash_is : {hash : List ℕ} → hash ≡ transaction_hash start.genesis_transaction → hash ≡ start.genesis_hash
unfolding start.genesis_hash
genesis_hash_is is = is
