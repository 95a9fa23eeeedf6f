use Rattle.std.proofs.Common.{◌≡◌, ◌+◌, ◌-◌, ◌<◌, ◌≤◌, pos, ap, subst, sym, ◌∙◌, arith}
use Rattle.std.proofs.lemmas.Grind.{common_steps}
use Rattle.chain_defs.specs.Dao.{DaoField, as_u64, miner_part}
use Rattle.chain_defs.proofs.RatedLemmas.{rated-parts}
use Rattle.chain_defs.specs.Branch.{branch}
use Rattle.chain_tree.proofs.EntryLemmas.{there-within}
use Rattle.rule_defs.specs.Reward.{field_at}
use Rattle.rule_defs.specs.Shares.{secondary_at}
use Rattle.rewards.proofs.SumLemmas.{small}
use Rattle.rewards.proofs.BranchLemmas.{field-there}
use Rattle.rewards.proofs.parts.issued.Goals as goal

pub miner_share-requires : goal.miner_share-requires
miner_share-requires c =
    subst (λ (f : DaoField). 0 < f.issued) (sym c.read-before.ensures.field)
    (rated-parts c.entry.result.now.dao (c.requires.rated c.ancestor.result c.entry.result.now c.entry.ensures.entry)).0

pub returns : goal.returns
returns c kept indexes =
    let fits : c.ok-miner.result ≡ as_u64 (pos c.miner_share.result) = grind (arith, common_steps) in
    let field : c.read-before.result ≡ field_at (branch kept c.args.parent) (c.args.height - 1) =
    c.read-before.ensures.field ∙ field-there kept c.args.tree.now.entries c.args.parent (c.args.height - 1) c.ancestor.result c.entry.result.now indexes
    (there-within c.args.tree.now.entries c.args.parent (λ entry. c.args.height ≤ entry.number) c.requires.height)
    (c.ancestor.ensures.of_blocks kept indexes) (c.entry.ensures.of_block kept indexes) in
    let share : c.share-secondary.result ≡ secondary_at c.args.spec.now c.args.height =
    c.share-secondary.ensures.share ∙ ap (λ spec. secondary_at spec c.args.height) c.spec.view_is in
    c.plus.ensures c.primary.result c.miner_share.result (small c.primary.result c.primary.type_inv) fits
    ∙ (λ i. as_u64 (pos (c.primary.ensures i + (c.miner_share.ensures ∙ (λ j. miner_part (field j) (share j))) i)))
