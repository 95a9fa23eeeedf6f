use Rattle.std.proofs.Common.{◌≡◌, ℕ, ◌+◌, ◌-◌, true, false, List, sym, ◌∙◌, arith, rules}
use Rattle.std.specs.Str.{bytes_eq}
use Rattle.std.specs.HashSet.{contains}
use Rattle.std.proofs.lemmas.Bool.{not-true, not-false}
use Rattle.chain_defs.proofs.DistinctLemmas.{has_more, distinct_more, distinct_twice}
use Rattle.block_judge.proofs.cellbase.are_hashes_distinct.Goals as goal

pub returns-then-not-branch : goal.returns-then-not-branch
returns-then-not-branch c =
    let values : List (List ℕ) = c.args.hashes.now in
    let value : List ℕ = c.hash_at.result in
    let next : c.later.i - 1 + 1 ≡ c.later.i = omega (arith, c.later-test.true) in
    let old : contains bytes_eq c.later.seen value ≡ true = not-false (contains bytes_eq c.later.seen value) (search rules) in
    sym (distinct_twice values (c.later.i - 1) c.later.i value next c.hash_at.ensures (sym (c.later.invariant.2 value) ∙ old))

pub later-preserved : goal.later-preserved
later-preserved c =
    let values : List (List ℕ) = c.args.hashes.now in
    let value : List ℕ = c.hash_at.result in
    let keeps = c.later.invariant in
    let next : c.later.i - 1 + 1 ≡ c.later.i = omega (arith, c.later-test.true) in
    let new : contains bytes_eq c.later.seen value ≡ false = not-true (contains bytes_eq c.later.seen value) (search rules) in
    let updates = c.in_ok-insert.ensures.updates in (
      omega (arith, keeps.0),
      distinct_more values (c.later.i - 1) c.later.i value next c.hash_at.ensures (sym (keeps.2 value) ∙ new) keeps.1,
      λ q. updates.0 q ∙ has_more values (c.later.i - 1) c.later.i value q _ next c.hash_at.ensures (keeps.2 q),
    )
