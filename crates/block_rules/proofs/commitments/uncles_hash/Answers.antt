use Rattle.std.proofs.Common.{List, ℕ, map, take, ap, ◌∙◌, subst, arith}
use Rattle.std.specs.List.{concat}
use Rattle.std.proofs.lemmas.List.{length-map}
use Rattle.blake2b_ckb.specs.Hasher.{Holds}
use Rattle.chain_defs.specs.Kept.{header_hash}
use Rattle.chain_defs.specs.Hashes.{uncle_hash, uncles_hash}
use Rattle.block_rules.proofs.ListLemmas.{concat-more, map-there, hash-none, hash-some}
use Rattle.block_rules.proofs.commitments.uncles_hash.Goals as goal

pub returns-then-uncles_count-eq0 : goal.returns-then-uncles_count-eq0
unfolding uncles_hash
returns-then-uncles_count-eq0 c =
    let long = length-map c.args.block.now.uncles uncle_hash in
    hash-none (map uncle_hash c.args.block.now.uncles) (omega (arith, long, c.uncles_count.ensures.value, c.if-uncles_count-eq0.true))

pub uncles-preserved : goal.uncles-preserved
uncles-preserved c =
    let uncles = c.args.block.now.uncles in
    let hashes : List (List ℕ) = map uncle_hash uncles in
    let there = map-there uncle_hash uncles c.uncles.i c.uncles_item.result c.header_hash.result c.uncles_item.ensures
    (c.header_hash.ensures ∙ ap header_hash c.header.ensures) in
    subst (Holds c.update.new.self) (concat-more hashes c.uncles.i c.header_hash.result there)
    (c.update.ensures (concat (take c.uncles.i hashes)) c.uncles.invariant)

pub returns : goal.returns
unfolding uncles_hash
returns c =
    let hashes : List (List ℕ) = map uncle_hash c.args.block.now.uncles in
    let long = length-map c.args.block.now.uncles uncle_hash in
    c.finalize.ensures (concat (take c.uncles.i hashes)) c.uncles.invariant
    ∙ hash-some hashes c.uncles.i (omega (arith, long, c.uncles_count.ensures.value, c.if-uncles_count-eq0.false))
    (omega (arith, long, c.uncles_count-i-end.ensures.value, c.uncles-test.false))
