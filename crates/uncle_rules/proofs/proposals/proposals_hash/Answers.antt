use Rattle.std.proofs.Common.{List, ℕ, take, ◌∙◌, subst, arith}
use Rattle.std.specs.List.{concat}
use Rattle.blake2b_ckb.specs.Hasher.{Holds}
use Rattle.chain_defs.specs.Hashes.{proposals_hash}
use Rattle.uncle_rules.proofs.ListLemmas.{concat-more, hash-none, hash-some}
use Rattle.uncle_rules.proofs.proposals.proposals_hash.Goals as goal

pub returns-then-proposals_count-eq0 : goal.returns-then-proposals_count-eq0
unfolding proposals_hash
returns-then-proposals_count-eq0 c = hash-none c.args.uncle.now.proposals (omega (arith, c.proposals_count.ensures.value, c.if-proposals_count-eq0.true))

pub ids-preserved : goal.ids-preserved
ids-preserved c =
    let ids : List (List ℕ) = c.args.uncle.now.proposals in
    subst (Holds c.update.new.self) (concat-more ids c.ids.i c.proposals_item.result.now c.proposals_item.ensures.at)
    (c.update.ensures (concat (take c.ids.i ids)) c.ids.invariant)

pub returns : goal.returns
unfolding proposals_hash
returns c =
    let ids : List (List ℕ) = c.args.uncle.now.proposals in
    c.finalize.ensures (concat (take c.ids.i ids)) c.ids.invariant
    ∙ hash-some ids c.ids.i (omega (arith, c.proposals_count.ensures.value, c.if-proposals_count-eq0.false))
    (omega (arith, c.proposals_count-i-end.ensures.value, c.ids-test.false))
