use Rattle.std.proofs.Common.{refl}
use Rattle.chain_defs.specs.Schema.{header}
use Rattle.pool_rows.proofs.Rows.{no_fields, one_more}
use Rattle.pool_rows.proofs.Fits.{header-fits}
use Rattle.pool_rows.proofs.header.header_row.Goals as goal

pub returns-clause-header : goal.returns-clause-header
unfolding header
returns-clause-header c =
    let empty = no_fields c.in_ok-row.ensures.items in
    let version = one_more empty c.in_ok-extend_from_slice.ensures.items c.to_le_bytes.ensures in
    let compact_target = one_more version c.in_ok-extend_from_slice-2.ensures.items c.to_le_bytes-2.ensures in
    let timestamp = one_more compact_target c.in_ok-extend_from_slice-3.ensures.items c.to_le_bytes-3.ensures in
    let number = one_more timestamp c.in_ok-extend_from_slice-4.ensures.items c.to_le_bytes-4.ensures in
    let epoch = one_more number c.in_ok-extend_from_slice-5.ensures.items c.to_le_bytes-5.ensures in
    let parent_hash = one_more epoch c.in_ok-push_hash.ensures.items refl in
    let transactions_root = one_more parent_hash c.in_ok-push_hash-2.ensures.items refl in
    let proposals_hash = one_more transactions_root c.in_ok-push_hash-3.ensures.items refl in
    let uncles_hash = one_more proposals_hash c.in_ok-push_hash-4.ensures.items refl in
    let dao = one_more uncles_hash c.in_ok-push_hash-5.ensures.items refl in
    let nonce = one_more dao c.in_ok-extend_from_slice-6.ensures.items c.to_le_bytes-6.ensures in
    record {
      fits = header-fits c.args.compact_target c.args.timestamp c.args.number c.args.epoch c.args.parent_hash.now c.args.commitments.now c.ranges.compact_target.fits
          c.ranges.timestamp.fits c.ranges.number.fits c.ranges.epoch.fits c.push_hash.ensures.hash.fits c.push_hash-2.ensures.hash.fits c.push_hash-3.ensures.hash.fits
          c.push_hash-4.ensures.hash.fits c.push_hash-5.ensures.hash.fits;
      encoding = nonce.is;
    }
