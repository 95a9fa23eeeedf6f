use Rattle.std.proofs.Common.{refl, ap, ◌∙◌}
use Rattle.std.specs.Int.{w32, w128, to_le_bytes}
use Rattle.chain_defs.specs.Schema.{header}
use Rattle.chain_defs.specs.Specification.{Specification}
use Rattle.chain_gen.proofs.Headers.{no_fields, one_more, no_uncles}
use Rattle.chain_gen.proofs.growth.header_row.Goals as goal

pub returns-clause-bytes : goal.returns-clause-bytes
unfolding header
returns-clause-bytes c =
    let target = c.to_le_bytes-3.ensures
    ∙ ap (λ (spec : Specification). to_le_bytes w32 spec.compact_target) (c.to_le_bytes-2.view_is ∙ c.specification.ensures) in
    let empty = no_fields c.in_ok-row.ensures.items in
    let version = one_more empty c.in_ok-extend_from_slice.ensures.items c.to_le_bytes.ensures in
    let compact_target = one_more version c.in_ok-extend_from_slice-2.ensures.items target in
    let timestamp = one_more compact_target c.in_ok-extend_from_slice-3.ensures.items c.to_le_bytes-4.ensures in
    let number = one_more timestamp c.in_ok-extend_from_slice-4.ensures.items c.to_le_bytes-5.ensures in
    let epoch = one_more number c.in_ok-extend_from_slice-5.ensures.items c.to_le_bytes-6.ensures in
    let parent_hash = one_more epoch c.in_ok-extend_from_slice-6.ensures.items refl in
    let transactions_root = one_more parent_hash c.in_ok-extend_from_slice-7.ensures.items refl in
    let proposals_hash = one_more transactions_root c.in_ok-extend_from_slice-8.ensures.items refl in
    let uncles = one_more proposals_hash c.in_ok-extend_from_slice-9.ensures.items no_uncles in
    let dao = one_more uncles c.in_ok-extend_from_slice-10.ensures.items refl in
    let nonce = one_more dao c.in_ok-extend_from_slice-11.ensures.items (c.to_le_bytes-7.ensures ∙ ap (to_le_bytes w128) c.from.ensures) in
    nonce.is
