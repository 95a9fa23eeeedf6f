use Rattle.std.proofs.Common.{refl, ap, ◌∙◌}
use Rattle.std.specs.Int.{w32, w64, w128, to_le_bytes}
use Rattle.chain_defs.specs.Schema.{header}
use Rattle.pool_rows.proofs.Rows.{no_fields, one_more}
use Rattle.block_seal.proofs.Rows.{header-fits}
use Rattle.block_seal.proofs.header.header_row.Goals as goal

pub returns-clause-header : goal.returns-clause-header
unfolding header
returns-clause-header c =
    let fits = c.bytes.ensures.fits in
    let empty = no_fields c.in_ok-row.ensures.items in
    let version = one_more empty c.in_ok-extend_from_slice.ensures.items (c.to_le_bytes.ensures ∙ ap (to_le_bytes w32) c.version.ensures) in
    let compact_target = one_more version c.in_ok-extend_from_slice-2.ensures.items (c.to_le_bytes-2.ensures ∙ ap (to_le_bytes w32) c.compact_target.ensures) in
    let timestamp = one_more compact_target c.in_ok-extend_from_slice-3.ensures.items (c.to_le_bytes-3.ensures ∙ ap (to_le_bytes w64) c.timestamp.ensures) in
    let number = one_more timestamp c.in_ok-extend_from_slice-4.ensures.items (c.to_le_bytes-4.ensures ∙ ap (to_le_bytes w64) c.number.ensures) in
    let epoch = one_more number c.in_ok-extend_from_slice-5.ensures.items (c.to_le_bytes-5.ensures ∙ ap (to_le_bytes w64) c.epoch.ensures) in
    let parent_hash = one_more epoch c.in_ok-extend_from_slice-6.ensures.items c.parent_hash.ensures.value in
    let transactions_root = one_more parent_hash c.in_ok-push_hash.ensures.items refl in
    let proposals_hash = one_more transactions_root c.in_ok-push_hash-2.ensures.items refl in
    let uncles_hash = one_more proposals_hash c.in_ok-push_hash-3.ensures.items refl in
    let dao = one_more uncles_hash c.in_ok-push_hash-4.ensures.items refl in
    let nonce = one_more dao c.in_ok-extend_from_slice-7.ensures.items (c.to_le_bytes-6.ensures ∙ ap (to_le_bytes w128) c.nonce.ensures) in
    record {
      fits = header-fits c.args.header.now c.args.commitments.now fits c.push_hash.ensures.hash.fits c.push_hash-2.ensures.hash.fits c.push_hash-3.ensures.hash.fits c.push_hash-4.ensures.hash.fits;
      encoding = nonce.is;
    }
