use Rattle.std.proofs.Common.{◌≡◌, ◌<◌, ℕ, List, [], length, take, get_or, Some, arith}
use Rattle.std.proofs.lemmas.Option.{slice_get-get_or, get_or_from_slice_get}
use Rattle.cell_state.proofs.ListBlockLemmas.{one_image_more, all_images}
use Rattle.node_store.proofs.body.ids_by.Goals as goal

pub later-preserved : goal.later-preserved
later-preserved c =
    let hashes : List (List ℕ) = c.args.hashes.now in
    let within : c.later.i < length hashes = omega (arith, c.later-test.true) in
    let hash : List ℕ = get_or hashes c.later.i [] in
    one_image_more (take 10) hashes c.later.i hash c.later.ids.items _ _ c.proposal_id.result within
    (get_or_from_slice_get hashes c.later.i hash hash (slice_get-get_or hashes c.later.i [] within)) c.proposal_id.ensures c.later.invariant
    c.in_ok-push.ensures.items

pub returns : goal.returns
returns c = all_images (take 10) c.args.hashes.now c.later.i c.later.ids.items _ (omega (arith, c.later-test.false)) c.later.invariant
