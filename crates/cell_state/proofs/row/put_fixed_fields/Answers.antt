use Rattle.std.proofs.Common.{◌≡◌, ◌++◌, length, ap, ◌∙◌, rules}
use Rattle.std.specs.Int.{w32, w64, to_le_bytes}
use Rattle.chain_defs.specs.Schema.{OutPoint}
use Rattle.chain_defs.specs.Row.{Row}
use Rattle.cell_state.proofs.RowByteLemmas.{put_more}
use Rattle.cell_state.proofs.row.put_fixed_fields.Goals as goal

pub returns : goal.returns
returns c =
    let long : length c.args.o.now.tx_hash ≡ 32 = search rules in
    let tx_hash : c.extend_from_slice.new.self.items ≡ c.args.bytes.now.items ++ c.args.o.now.tx_hash =
    c.in_ok-extend_from_slice.ensures.items ∙ ap (λ (o : OutPoint). c.args.bytes.now.items ++ o.tx_hash) c.o.view_is in
    let index = put_more _ _ _ _ _ _ tx_hash c.in_ok-extend_from_slice-2.ensures.items (c.to_le_bytes.ensures ∙ ap (λ (o : OutPoint). to_le_bytes w32 o.index) c.o.view_is) in
    let block = put_more _ _ _ _ _ _ index c.in_ok-extend_from_slice-3.ensures.items (c.to_le_bytes-2.ensures ∙ ap (λ (row : Row). to_le_bytes w32 row.block) c.meta.view_is) in
    let place = put_more _ _ _ _ _ _ block c.in_ok-extend_from_slice-4.ensures.items (c.to_le_bytes-3.ensures ∙ ap (λ (row : Row). to_le_bytes w32 row.transaction) c.meta.view_is) in
    let capacity = put_more _ _ _ _ _ _ place c.in_ok-extend_from_slice-5.ensures.items (c.to_le_bytes-4.ensures ∙ ap (λ (row : Row). to_le_bytes w64 row.capacity) c.meta.view_is) in
    record {
      written = put_more _ _ _ _ _ _ capacity c.in_ok-extend_from_slice-6.ensures.items (c.to_le_bytes-5.ensures ∙ ap (λ (row : Row). to_le_bytes w64 row.occupied) c.meta.view_is);
      hash = long;
    }
