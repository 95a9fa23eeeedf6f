-- The rules on the genesis of a store, as rows of a list (docs/RULES.md, "The genesis"). A row has the rule's number and whether the genesis keeps it.
use Rattle.std.specs.Prelude.{ℕ, ◌==◌, ◌&&◌, nat_lt, Bool, List, [], ◌∷◌, map, length, Option, Some, None}
use Rattle.std.specs.List.{list_all}
use Rattle.chain_defs.specs.Shape.{decoded}
use Rattle.chain_defs.specs.Schema.{Block, block}
use Rattle.chain_defs.specs.First.{first_failing}
use Rattle.chain_defs.specs.Dao.{is_rated}
use Rattle.chain_defs.specs.Hashes.{transaction_hash, are_distinct}
use Rattle.chain_defs.specs.Cell.{pairs_data, outputs_hold_their_own}

-- G2: its number is 0.
abbrev pub is_first : Block → Bool
is_first genesis = genesis.header.number == 0

-- G3: it has no uncles and no proposals.
abbrev pub has_no_uncles_or_proposals : Block → Bool
has_no_uncles_or_proposals genesis = (length genesis.uncles == 0) && (length genesis.proposals == 0)

-- G5: it has a transaction, and its transaction hashes are distinct.
abbrev pub has_transactions : Block → Bool
has_transactions genesis = nat_lt 0 (length genesis.transactions) && are_distinct (map transaction_hash genesis.transactions)

-- G6: each transaction has as many data as outputs.
abbrev pub all_pair_data : Block → Bool
all_pair_data genesis = list_all pairs_data genesis.transactions

-- G7: each output holds what it occupies with its data.
abbrev pub all_hold_capacity : Block → Bool
all_hold_capacity genesis = list_all outputs_hold_their_own genesis.transactions

-- G4: its DAO field is rated.
abbrev pub genesis_rules : Block → List (ℕ × Bool)
genesis_rules genesis =
    (2, is_first genesis)
    ∷ (3, has_no_uncles_or_proposals genesis)
    ∷ (4, is_rated genesis.header.dao)
    ∷ (5, has_transactions genesis)
    ∷ (6, all_pair_data genesis)
    ∷ (7, all_hold_capacity genesis)
    ∷ []

abbrev pub broken_by : Option Block → Option ℕ
broken_by None = Some 1
broken_by (Some genesis) = first_failing (genesis_rules genesis)

-- The first of G1 to G7 that an item breaks. G1: it is a canonical `Block`.
unfoldable pub broken_genesis_rule : List ℕ → Option ℕ
broken_genesis_rule item = broken_by (decoded block item)
