use Rattle.std.proofs.Common.{◌≡◌, ℕ, ◌+◌, ◌-◌, true, false, ltb, List, length, map, Some, sym, ap, ◌∙◌, arith, rules}
use Rattle.std.specs.Prelude.{slice_get, option_map}
use Rattle.std.specs.Str.{bytes_eq}
use Rattle.std.specs.HashSet.{contains}
use Rattle.std.proofs.lemmas.Bool.{not-true, not-false, and_right}
use Rattle.std.proofs.lemmas.Option.{slice_get-map}
use Rattle.chain_defs.specs.Schema.{Transaction}
use Rattle.chain_defs.specs.Hashes.{transaction_hash, are_distinct}
use Rattle.chain_defs.proofs.DistinctLemmas.{has_more, distinct_more, distinct_twice}
use Rattle.log_file.proofs.genesis.has_transactions.Goals as goal

-- the hash of the transaction at a place
hash_there : (transactions : List Transaction) (j : ℕ) (transaction : Transaction) (hash : List ℕ) → slice_get transactions j ≡ Some transaction
    → hash ≡ transaction_hash transaction → slice_get (map transaction_hash transactions) j ≡ Some hash
hash_there transactions j transaction hash there is = slice_get-map transaction_hash transactions j ∙ ap (option_map transaction_hash) there ∙ ap Some (sym is)

pub returns-then-not-branch : goal.returns-then-not-branch
returns-then-not-branch c =
    let transactions : List Transaction = c.args.block.now.transactions in
    let hash = c.transaction_hash-hash.result in
    let keeps = c.later.invariant in
    let next : c.later.i - 1 + 1 ≡ c.later.i = omega (arith, c.later-test.true) in
    let there = hash_there transactions (c.later.i - 1) c.transactions_item.result hash c.transactions_item.ensures c.transaction_hash-hash.ensures in
    let old : contains bytes_eq c.later.seen hash ≡ true = not-false (contains bytes_eq c.later.seen hash) (search rules) in
    sym (and_right (ltb 0 (length transactions)) (are_distinct (map transaction_hash transactions))
    (distinct_twice (map transaction_hash transactions) (c.later.i - 1) c.later.i hash next there (sym (keeps.2 hash) ∙ old)))

pub later-preserved : goal.later-preserved
later-preserved c =
    let transactions : List Transaction = c.args.block.now.transactions in
    let hash = c.transaction_hash-hash.result in
    let keeps = c.later.invariant in
    let next : c.later.i - 1 + 1 ≡ c.later.i = omega (arith, c.later-test.true) in
    let there = hash_there transactions (c.later.i - 1) c.transactions_item.result hash c.transactions_item.ensures c.transaction_hash-hash.ensures in
    let new : contains bytes_eq c.later.seen hash ≡ false = not-true (contains bytes_eq c.later.seen hash) (search rules) in
    let updates = c.in_ok-insert.ensures.updates in (
      omega (arith, keeps.0),
      distinct_more (map transaction_hash transactions) (c.later.i - 1) c.later.i hash next there (sym (keeps.2 hash) ∙ new) keeps.1,
      λ q. updates.0 q ∙ has_more (map transaction_hash transactions) (c.later.i - 1) c.later.i hash q _ next there (keeps.2 q),
    )
