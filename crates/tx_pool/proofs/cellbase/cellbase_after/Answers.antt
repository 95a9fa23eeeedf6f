use Rattle.std.proofs.Common.{◌≡◌, ℕ, ◌+◌, ◌-◌, ◌<◌, length, sym, ap, ◌∙◌, subst, arith}
use Rattle.chain_defs.specs.Shape.{IsEncoding}
use Rattle.chain_defs.specs.Schema.{Transaction, transaction}
use Rattle.chain_defs.specs.Specification.{Specification}
use Rattle.chain_defs.specs.Branch.{branch}
use Rattle.chain_tree.specs.Told.{blocks_of}
use Rattle.chain_tree.proofs.ReadLemmas.{unread, read_on}
use Rattle.tx_rules.proofs.BranchLemmas.{branch-long}
use Rattle.block_judge.proofs.EndingLemmas.{block-up}
use Rattle.pool_rows.proofs.Fits.{of-value}
use Rattle.tx_pool.proofs.CellbaseLemmas.{read-then-alone, alone-undamaged, cellbase-early, cellbase-found, cellbase-none}
use Rattle.tx_pool.proofs.cellbase.cellbase_after.Goals as goal

pub returns-then-height-delay-clause-cellbase : goal.returns-then-height-delay-clause-cellbase
returns-then-height-delay-clause-cellbase g c stored tells indexes own =
    let long = branch-long (blocks_of stored) c.args.tree.now.entries c.args.parent c.entry.result.now indexes c.entry.ensures.entry in
    let far : c.spec.inside.w_far ≡ c.args.spec.now.w_far = ap (λ (spec : Specification). spec.w_far) c.spec.view_is in
    of-value c.alone.result
    (λ bytes is. subst (λ (t : Transaction). IsEncoding transaction bytes.items t) (cellbase-early c.args.spec.now (branch (blocks_of stored) c.args.parent) (c.entry.result.now.number + 1) c.args.witness.now long
    (omega (arith, long, far, c.if-height-delay.true, c.from-delay.ensures))) is) c.alone.ensures.cellbase

pub returns-in-Ok-Some-clause-cellbase : goal.returns-in-Ok-Some-clause-cellbase
returns-in-Ok-Some-clause-cellbase g c stored tells indexes own =
    let long = branch-long (blocks_of stored) c.args.tree.now.entries c.args.parent c.entry.result.now indexes c.entry.ensures.entry in
    let far : c.spec.inside.w_far ≡ c.args.spec.now.w_far = ap (λ (spec : Specification). spec.w_far) c.spec.view_is in
    let target : ℕ = c.entry.result.now.number + 1 - (c.from-delay.result + 1) in
    let late : c.args.spec.now.w_far + 1 < length (branch (blocks_of stored) c.args.parent) = omega (arith, long, far, c.if-height-delay.false, c.from-delay.ensures) in
    let at : target ≡ length (branch (blocks_of stored) c.args.parent) - (c.args.spec.now.w_far + 1) = omega (arith, long, far, c.from-delay.ensures) in
    of-value c.cellbase_at.result
    (λ bytes is. subst (λ (t : Transaction). IsEncoding transaction bytes.items t)
    (cellbase-found c.args.spec.now (branch (blocks_of stored) c.args.parent) (c.entry.result.now.number + 1) target c.in-Ok-Some.reward _ c.args.witness.now long late at
    (sym c.in-Ok-Some.field-0-is ∙ c.in-Ok-Some.ensures.reward stored tells indexes own)
    (block-up (blocks_of stored) c.args.tree.now.entries c.args.parent target c.ancestor.result indexes c.requires.placed.parent (c.ancestor.ensures.of_blocks (blocks_of stored) indexes))) is)
    (c.cellbase_at.ensures.cellbase stored (c.reward.ensures.read.told ∙ tells))

pub returns-in-Ok-None-clause-cellbase : goal.returns-in-Ok-None-clause-cellbase
returns-in-Ok-None-clause-cellbase g c stored tells indexes own =
    let long = branch-long (blocks_of stored) c.args.tree.now.entries c.args.parent c.entry.result.now indexes c.entry.ensures.entry in
    let far : c.spec.inside.w_far ≡ c.args.spec.now.w_far = ap (λ (spec : Specification). spec.w_far) c.spec.view_is in
    let target : ℕ = c.entry.result.now.number + 1 - (c.from-delay.result + 1) in
    of-value c.alone-in-Ok-None.result
    (λ bytes is. subst (λ (t : Transaction). IsEncoding transaction bytes.items t)
    (cellbase-none c.args.spec.now (branch (blocks_of stored) c.args.parent) (c.entry.result.now.number + 1) target c.args.witness.now long
    (omega (arith, long, far, c.if-height-delay.false, c.from-delay.ensures)) (omega (arith, long, far, c.from-delay.ensures))
    (sym c.in-Ok-None.field-0-is ∙ c.in-Ok-None.ensures.reward stored tells indexes own)) is) c.alone-in-Ok-None.ensures.cellbase

pub returns-then-height-delay-clause-read : goal.returns-then-height-delay-clause-read
returns-then-height-delay-clause-read g c = read-then-alone c.alone.result c.alone.ensures.stop (unread _)

pub returns-in-Ok-Some-clause-read : goal.returns-in-Ok-Some-clause-read
returns-in-Ok-Some-clause-read g c = read_on c.in-Ok-Some.ensures.read c.cellbase_at.ensures.read

pub returns-in-Ok-None-clause-read : goal.returns-in-Ok-None-clause-read
returns-in-Ok-None-clause-read g c = read-then-alone c.alone-in-Ok-None.result c.alone-in-Ok-None.ensures.stop c.in-Ok-None.ensures.read

pub returns-then-height-delay-clause-undamaged : goal.returns-then-height-delay-clause-undamaged
returns-then-height-delay-clause-undamaged g c stored tells indexes own damage same = alone-undamaged c.alone.result c.alone.ensures.stop damage same

pub returns-in-Ok-Some-clause-undamaged : goal.returns-in-Ok-Some-clause-undamaged
returns-in-Ok-Some-clause-undamaged g c stored tells indexes own damage same = c.cellbase_at.ensures.undamaged stored (c.reward.ensures.read.told ∙ tells) damage same

pub returns-in-Ok-None-clause-undamaged : goal.returns-in-Ok-None-clause-undamaged
returns-in-Ok-None-clause-undamaged g c stored tells indexes own damage same = alone-undamaged c.alone-in-Ok-None.result c.alone-in-Ok-None.ensures.stop damage same

pub returns-then-height-delay-clause-canonical : goal.returns-then-height-delay-clause-canonical
returns-then-height-delay-clause-canonical g c = of-value c.alone.result (λ bytes is. (_, is)) c.alone.ensures.cellbase

pub returns-in-Ok-None-clause-canonical : goal.returns-in-Ok-None-clause-canonical
returns-in-Ok-None-clause-canonical g c = of-value c.alone-in-Ok-None.result (λ bytes is. (_, is)) c.alone-in-Ok-None.ensures.cellbase
