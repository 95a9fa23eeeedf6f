use Rattle.std.proofs.Common.{◌≡◌, List, ℕ, replicate, refl, ◌∙◌, subst}
use Rattle.std.specs.Int.{w128}
use Rattle.std.proofs.lemmas.Int.{to_z-of_z}
use Rattle.chain_defs.specs.Shape.{IsEncoding}
use Rattle.chain_defs.specs.Schema.{Block, header, block}
use Rattle.chain_defs.specs.Branch.{branch}
use Rattle.pool_rows.specs.declared.header.Commitments.{Commitments}
use Rattle.pool_rows.proofs.Fits.{of-value, seen-as}
use Rattle.tx_pool.proofs.SealingLemmas.{moved-as, open-same, sealed-same}
use Rattle.tx_pool.proofs.sealing.sealed.Goals as goal

pub from_encoding-block-requires : goal.from_encoding-block-requires
from_encoding-block-requires g c =
    let head = seen-as header _ c.deref.result.now _ c.deref.ensures.value c.in_ok-header.ensures.canonical.1 in
    (_, seen-as block _ c.deref-2.result.now _ c.deref-2.ensures.value (c.in_ok-open.ensures _ head))

pub returns-clause-canonical : goal.returns-clause-canonical
returns-clause-canonical g c =
    let head = seen-as header _ c.deref-3.result.now _ c.deref-3.ensures.value c.in_ok-header-2.ensures.canonical.1 in
    of-value c.block_row-2.result (λ bytes is. (_, is)) (c.block_row-2.ensures _ head)

pub returns-clause-sealed : goal.returns-clause-sealed
returns-clause-sealed g c kept b indexes fills moved =
    let on : List Block = branch kept c.args.context.now.parent in
    let zeros : List ℕ = replicate 32 0 in
    let nothing : Commitments = record { transactions_root = zeros; proposals_hash = zeros; uncles_hash = zeros; dao = zeros } in
    let first = seen-as header _ c.deref.result.now _ c.deref.ensures.value (c.in_ok-header.ensures.header kept indexes) in
    let same : c.from_encoding-block.result ≡ b =
    c.from_encoding-block.ensures _ (seen-as block _ c.deref-2.result.now _ c.deref-2.ensures.value (c.in_ok-open.ensures _ first))
    ∙ open-same c.args.context.now.spec.now on b c.args.transactions.now c.args.ids.now fills nothing refl refl refl refl in
    let commits = c.in_ok-commitments.ensures kept indexes
    (moved-as c.args.context.now.spec.now on b c.from_encoding-block.result c.args.interest _ c.args.freed (to_z-of_z w128 c.args.interest c.ranges.interest) same moved) in
    let second = seen-as header _ c.deref-3.result.now _ c.deref-3.ensures.value (c.in_ok-header-2.ensures.header kept indexes) in
    of-value c.block_row-2.result
    (λ bytes is. subst (λ (it : Block). IsEncoding block bytes.items it)
    (sealed-same c.args.context.now.spec.now on b c.args.transactions.now c.args.ids.now fills c.from_encoding-block.result _ same commits) is)
    (c.block_row-2.ensures _ second)
