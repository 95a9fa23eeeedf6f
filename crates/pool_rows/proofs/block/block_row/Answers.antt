use Rattle.std.proofs.Common.{◌≡◌, ℕ, List, [], ◌∷◌, ◌++◌, ap, ◌∙◌}
use Rattle.chain_defs.specs.Shape.{dynvec, fixvec}
use Rattle.chain_defs.specs.Schema.{transaction, proposal_short_id}
use Rattle.pool_rows.proofs.Fits.{of-value, seen-as}
use Rattle.pool_rows.proofs.BlockLemmas.{table-is, block-is}
use Rattle.pool_rows.proofs.block.block_row.Goals as goal

pub returns : goal.returns
returns c = λ h head.
    let no_uncles : List ℕ = 4 ∷ 0 ∷ 0 ∷ 0 ∷ [] in
    let one = c.in_ok-push.ensures.ok ∙ ap (λ (fields : List (List ℕ)). fields ++ c.args.header.now ∷ []) c.new-fields.ensures.empty in
    let two = c.in_ok-push-2.ensures.ok ∙ ap (λ (fields : List (List ℕ)). fields ++ no_uncles ∷ []) one in
    let three = c.in_ok-push-3.ensures.ok ∙ ap (λ (fields : List (List ℕ)). fields ++ c.deref.result.now ∷ []) two in
    let four = c.in_ok-push-4.ensures.ok ∙ ap (λ (fields : List (List ℕ)). fields ++ c.deref-2.result.now ∷ []) three in
    let listed = seen-as (dynvec transaction) c.in_ok-listed.listed.items c.deref.result.now c.args.transactions.now c.deref.ensures.value c.in_ok-listed.ensures.transactions in
    let written = seen-as (fixvec 10 proposal_short_id) c.in_ok-ids.ids.items c.deref-2.result.now c.args.ids.now c.deref-2.ensures.value c.in_ok-ids.ensures.ids in
    of-value c.table.result
    (λ bytes is. block-is h c.args.transactions.now c.args.ids.now bytes.items c.args.header.now c.deref.result.now c.deref-2.result.now head listed written
    (table-is _ _ c.args.header.now no_uncles c.deref.result.now c.deref-2.result.now bytes.items four is)) c.table.ensures
