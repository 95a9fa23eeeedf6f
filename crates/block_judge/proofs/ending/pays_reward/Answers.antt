use Rattle.std.proofs.Common.{◌≡◌, ℕ, ◌+◌, ◌-◌, ◌<◌, length, sym, ap, ◌∙◌, arith}
use Rattle.std.specs.Prelude.{◌==◌}
use Rattle.chain_defs.specs.Schema.{RawTransaction}
use Rattle.chain_defs.specs.Specification.{Specification}
use Rattle.chain_defs.specs.Kept.{block_at}
use Rattle.chain_defs.specs.Branch.{branch}
use Rattle.chain_tree.specs.Told.{blocks_of}
use Rattle.rule_defs.specs.Payment.{owed_to, lock_of, are_owed}
use Rattle.chain_tree.proofs.ReadLemmas.{unread, read_on}
use Rattle.tx_rules.proofs.BranchLemmas.{branch-long}
use Rattle.block_judge.proofs.EndingLemmas.{if-ok, block-up, pays-early, pays-found, pays-none}
use Rattle.block_judge.proofs.ending.pays_reward.Goals as goal

pub returns-then-height-delay-clause-pays : goal.returns-then-height-delay-clause-pays
returns-then-height-delay-clause-pays g c stored tells indexes own =
    let long = branch-long (blocks_of stored) c.args.tree.now.entries c.args.parent c.entry.result.now indexes c.entry.ensures.entry in
    let far : c.spec.inside.w_far ≡ c.args.spec.now.w_far = ap (λ (spec : Specification). spec.w_far) c.spec.view_is in
    ap (λ (n : ℕ). n == 0) (c.outputs_count.ensures.value ∙ ap (λ (raw : RawTransaction). length raw.outputs) c.raw-cellbase.ensures)
    ∙ sym (pays-early c.args.spec.now (branch (blocks_of stored) c.args.parent) c.args.block.now c.transactions_item.result c.transactions_item.ensures
    (omega (arith, long, far, c.if-height-delay.true, c.from-delay.ensures)))

pub returns-in-Ok-Some-clause-pays : goal.returns-in-Ok-Some-clause-pays
returns-in-Ok-Some-clause-pays g c stored tells indexes own =
    let long = branch-long (blocks_of stored) c.args.tree.now.entries c.args.parent c.entry.result.now indexes c.entry.ensures.entry in
    let far : c.spec.inside.w_far ≡ c.args.spec.now.w_far = ap (λ (spec : Specification). spec.w_far) c.spec.view_is in
    let target : ℕ = c.entry.result.now.number + 1 - (c.from-delay.result + 1) in
    let late : c.args.spec.now.w_far + 1 < length (branch (blocks_of stored) c.args.parent) = omega (arith, long, far, c.if-height-delay.false, c.from-delay.ensures) in
    let at : target ≡ length (branch (blocks_of stored) c.args.parent) - (c.args.spec.now.w_far + 1) = omega (arith, long, far, c.from-delay.ensures) in
    if-ok _ _ c.pays_at.result
    (λ pays is. pays-found c.args.spec.now (branch (blocks_of stored) c.args.parent) c.args.block.now c.transactions_item.result target c.in-Ok-Some.reward _ pays
    c.transactions_item.ensures late at (sym c.in-Ok-Some.field-0-is ∙ c.in-Ok-Some.ensures.reward stored tells indexes own)
    (block-up (blocks_of stored) c.args.tree.now.entries c.args.parent target c.ancestor.result indexes c.requires.placed.parent (c.ancestor.ensures.of_blocks (blocks_of stored) indexes))
    (is ∙ ap (λ (raw : RawTransaction). are_owed (owed_to (lock_of (block_at (blocks_of stored) c.ancestor.result)) c.in-Ok-Some.reward) raw.outputs) c.raw-cellbase.ensures))
    (c.pays_at.ensures.pays stored (c.reward.ensures.read.told ∙ tells))

pub returns-in-Ok-None-clause-pays : goal.returns-in-Ok-None-clause-pays
returns-in-Ok-None-clause-pays g c stored tells indexes own =
    let long = branch-long (blocks_of stored) c.args.tree.now.entries c.args.parent c.entry.result.now indexes c.entry.ensures.entry in
    let far : c.spec.inside.w_far ≡ c.args.spec.now.w_far = ap (λ (spec : Specification). spec.w_far) c.spec.view_is in
    let target : ℕ = c.entry.result.now.number + 1 - (c.from-delay.result + 1) in
    pays-none c.args.spec.now (branch (blocks_of stored) c.args.parent) c.args.block.now c.transactions_item.result target c.transactions_item.ensures
    (omega (arith, long, far, c.if-height-delay.false, c.from-delay.ensures)) (omega (arith, long, far, c.from-delay.ensures))
    (sym c.in-Ok-None.field-0-is ∙ c.in-Ok-None.ensures.reward stored tells indexes own)

pub returns-then-height-delay-clause-read : goal.returns-then-height-delay-clause-read
returns-then-height-delay-clause-read g c = unread _

pub returns-in-Ok-Some-clause-read : goal.returns-in-Ok-Some-clause-read
returns-in-Ok-Some-clause-read g c = read_on c.in-Ok-Some.ensures.read c.pays_at.ensures.read

pub returns-in-Ok-Some-clause-undamaged : goal.returns-in-Ok-Some-clause-undamaged
returns-in-Ok-Some-clause-undamaged g c stored tells indexes own damage same = c.pays_at.ensures.undamaged stored (c.reward.ensures.read.told ∙ tells) damage same
