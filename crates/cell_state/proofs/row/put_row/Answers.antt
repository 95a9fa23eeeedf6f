use Rattle.std.proofs.Common.{◌≡◌, ◌++◌, length, sym, ap, ◌∙◌, arith, rules}
use Rattle.std.specs.Int.{w32, w64, to_le_bytes}
use Rattle.std.proofs.lemmas.List.{length-append}
use Rattle.chain_defs.specs.Row.{Row}
use Rattle.chain_defs.specs.Ext.{type_bytes}
use Rattle.cell_state.proofs.RowByteLemmas.{put_more, has_form}
use Rattle.cell_state.proofs.row.put_row.Goals as goal

pub returns-clause-written : goal.returns-clause-written
returns-clause-written c =
    let lock_hash = put_more _ _ _ _ _ _ c.in_ok-put_fixed_fields.ensures.written c.in_ok-extend_from_slice.ensures.items (ap (λ (row : Row). row.lock_hash) c.meta.view_is) in
    let type_hash = put_more _ _ _ _ _ _ lock_hash c.in_ok-put_type_hash.ensures.written (ap (λ (row : Row). type_bytes row.type_hash) c.meta.view_is) in
    let data_hash = put_more _ _ _ _ _ _ type_hash c.in_ok-extend_from_slice-2.ensures.items (ap (λ (row : Row). row.data_hash) c.meta.view_is) in
    put_more _ _ _ _ _ _ data_hash c.in_ok-extend_from_slice-3.ensures.items (c.to_le_bytes.ensures ∙ ap (λ (row : Row). to_le_bytes w32 row.data_len) c.meta.view_is)

pub returns-clause-size : goal.returns-clause-size
returns-clause-size c =
    let tx_hash : length c.args.o.now.tx_hash ≡ 32 = c.in_ok-put_fixed_fields.ensures.hash in
    let lock_hash : length c.args.meta.now.lock_hash ≡ 32 = search rules in
    let type_hash : length (type_bytes c.args.meta.now.type_hash) ≡ 33 =
    sym (ap (λ (row : Row). length (type_bytes row.type_hash)) c.meta.view_is) ∙ c.in_ok-put_type_hash.ensures.size in
    let data_hash : length c.args.meta.now.data_hash ≡ 32 = search rules in
    simp length-append (omega (arith, tx_hash, lock_hash, type_hash, data_hash))

pub returns-clause-form : goal.returns-clause-form
returns-clause-form c =
    let o = c.args.o.now in
    let row = c.args.meta.now in
    let tx_hash : length o.tx_hash ≡ 32 = c.in_ok-put_fixed_fields.ensures.hash in
    let lock_hash : length row.lock_hash ≡ 32 = search rules in
    has_form
    (o.tx_hash ++ to_le_bytes w32 o.index ++ to_le_bytes w32 row.block ++ to_le_bytes w32 row.transaction
    ++ to_le_bytes w64 row.capacity ++ to_le_bytes w64 row.occupied ++ row.lock_hash)
    row.data_hash (to_le_bytes w32 row.data_len) row.type_hash (simp length-append (omega (arith, tx_hash, lock_hash)))
