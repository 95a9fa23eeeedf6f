-- Hashes of a chain's values, and what a header commits to its block by (docs/RULES.md, "Hashes and roots").
use Rattle.std.specs.Prelude.{ℕ, Bool, true, ◌&&◌, not, List, [], ◌∷◌, map, take, replicate}
use Rattle.std.specs.List.{concat, list_any}
use Rattle.std.specs.Str.{bytes_eq}
use Rattle.chain_defs.specs.CkbHash.{ckbhash}
use Rattle.chain_defs.specs.Root.{root}
use Rattle.chain_defs.specs.Shape.{encoded}
use Rattle.chain_defs.specs.Schema.{Transaction, UncleBlock, raw_transaction, transaction}
use Rattle.chain_defs.specs.Kept.{header_hash}

-- The hash of a transaction is that of its RawTransaction, without witnesses (RFC 0022).
unfoldable pub transaction_hash : Transaction → List ℕ
transaction_hash transaction = ckbhash (encoded raw_transaction transaction.raw)

-- The hash with its witnesses is that of the whole Transaction (RFC 0027, "transactions_root").
unfoldable pub witness_hash : Transaction → List ℕ
witness_hash t = ckbhash (encoded transaction t)

-- The id by which a transaction is proposed: the first 10 bytes of its hash (RFC 0020, "proposal_short_id").
abbrev pub proposal_id : Transaction → List ℕ
proposal_id transaction = take 10 (transaction_hash transaction)

-- transactions_root: the root of the root of the hashes and the root of the hashes with witnesses (RFC 0027)
unfoldable pub transactions_root : List Transaction → List ℕ
transactions_root transactions = root (root (map transaction_hash transactions) ∷ root (map witness_hash transactions) ∷ [])

-- the hash of some values one after another; 32 zero bytes where there is none
abbrev pub hash_of_all : List (List ℕ) → List ℕ
hash_of_all [] = replicate 32 0
hash_of_all (first ∷ later) = ckbhash (concat (first ∷ later))

-- proposals_hash: of the proposal ids (RFC 0027)
unfoldable pub proposals_hash : List (List ℕ) → List ℕ
proposals_hash ids = hash_of_all ids

-- the hash of an uncle is that of its header
abbrev pub uncle_hash : UncleBlock → List ℕ
uncle_hash uncle = header_hash uncle.header

-- uncles_hash: of the hashes of the uncles (RFC 0027)
unfoldable pub uncles_hash : List UncleBlock → List ℕ
uncles_hash uncles = hash_of_all (map uncle_hash uncles)

-- no two are equal
abbrev pub are_distinct : List (List ℕ) → Bool
are_distinct [] = true
are_distinct (first ∷ later) = not (list_any (λ other. bytes_eq other first) later) && are_distinct later
