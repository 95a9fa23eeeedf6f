-- A header as a row of its fields.
use Rattle.std.proofs.Common.{◌≡◌, ℕ, List, [], ◌∷◌, ◌++◌, map, replicate, refl, ap, sym, ◌∙◌, append_assoc}
use Rattle.std.proofs.lemmas.List.{append-nil}
use Rattle.std.specs.List.{concat}
use Rattle.chain_defs.specs.Root.{root}
use Rattle.chain_defs.specs.Schema.{Transaction}
use Rattle.chain_defs.specs.Dao.{field_bytes}
use Rattle.chain_defs.specs.Hashes.{transaction_hash, witness_hash, transactions_root, proposals_hash, uncles_hash}
use Rattle.gen_defs.specs.Start as start
use Rattle.chain_gen.specs.Headers.{header_of}

-- these bytes are the fields side by side
pub record IsRow (row : List ℕ) (fields : List (List ℕ)) : Type 0 where
  pub is : row ≡ concat fields

concat_push : (fields : List (List ℕ)) (field : List ℕ) → concat (fields ++ field ∷ []) ≡ concat fields ++ field
concat_push [] field = append-nil field
concat_push (first ∷ fields) field = ap (λ (l : List ℕ). first ++ l) (concat_push fields field) ∙ sym (append_assoc first (concat fields) field)

pub no_fields : {row : List ℕ} → row ≡ [] → IsRow row []
no_fields is = record { is = is }

pub one_more : {row next piece field : List ℕ} {fields : List (List ℕ)} → IsRow row fields → next ≡ row ++ piece → piece ≡ field → IsRow next (fields ++ field ∷ [])
one_more {row = row} {field = field} {fields = fields} row_is next_is piece_is = record {
  is = next_is ∙ ap (λ (l : List ℕ). row ++ l) piece_is ∙ ap (λ (l : List ℕ). l ++ field) row_is.is ∙ sym (concat_push fields field);
}

pub no_uncles : replicate 32 0 ≡ uncles_hash []
unfolding uncles_hash
no_uncles = refl

-- the root of a block, by the two roots below it
pub root_of_both : (transactions : List Transaction) {hashes witness_hashes : List (List ℕ)} {first second both : List ℕ}
    → first ≡ root hashes → second ≡ root witness_hashes → both ≡ root (first ∷ second ∷ [])
    → hashes ≡ map transaction_hash transactions → witness_hashes ≡ map witness_hash transactions → both ≡ transactions_root transactions
unfolding transactions_root
root_of_both transactions {second = second} first_is second_is both_is hashes_are witness_hashes_are =
    both_is ∙ ap (λ (l : List ℕ). root (l ∷ second ∷ [])) (first_is ∙ ap root hashes_are)
    ∙ ap (λ (l : List ℕ). root (root (map transaction_hash transactions) ∷ l ∷ [])) (second_is ∙ ap root witness_hashes_are)

pub genesis_header_is : (top dao : List ℕ) → top ≡ transactions_root (start.genesis_transaction ∷ []) → dao ≡ field_bytes start.genesis_field
    → header_of (record { timestamp = 1000; number = 0; epoch = 0; parent_hash = replicate 32 0; transactions_root = top; proposals_hash = replicate 32 0; dao = dao; nonce = 0 })
    ≡ start.genesis.header
unfolding start.genesis proposals_hash
genesis_header_is top dao top_is dao_is =
    ap (λ (top : List ℕ). header_of (record { timestamp = 1000; number = 0; epoch = 0; parent_hash = replicate 32 0; transactions_root = top; proposals_hash = replicate 32 0; dao = dao; nonce = 0 })) top_is
    ∙ ap (λ (dao : List ℕ). header_of (record { timestamp = 1000; number = 0; epoch = 0; parent_hash = replicate 32 0; transactions_root = transactions_root (start.genesis_transaction ∷ []); proposals_hash = replicate 32 0; dao = dao; nonce = 0 })) dao_is
