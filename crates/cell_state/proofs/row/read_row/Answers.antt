use Rattle.std.proofs.Common.{◌≡◌, lit≤, List, ℕ, rules}
use Rattle.std.specs.List.{slice_range}
use Rattle.chain_defs.specs.Ext.{type_bytes}
use Rattle.cell_state.proofs.RowByteLemmas.{next, whole}
use Rattle.cell_state.proofs.row.read_row.Goals as goal

pub returns-clause-bytes : goal.returns-clause-bytes
returns-clause-bytes c =
    let row : List ℕ = c.args.row.now in
    let hash : type_bytes c.in_ok-type_hash.type_hash ≡ slice_range row 92 125 = search rules in
    let index = next row _ _ 32 36 (lit≤ tt) c.u32_at.ensures.bytes c.hash_at.ensures in
    let block = next row _ _ 36 40 (lit≤ tt) c.u32_at-2.ensures.bytes index in
    let transaction = next row _ _ 40 44 (lit≤ tt) c.u32_at-3.ensures.bytes block in
    let capacity = next row _ _ 44 52 (lit≤ tt) c.u64_at.ensures.bytes transaction in
    let occupied = next row _ _ 52 60 (lit≤ tt) c.u64_at-2.ensures.bytes capacity in
    let lock_hash = next row _ _ 60 92 (lit≤ tt) c.hash_at-2.ensures occupied in
    let type_hash = next row _ _ 92 125 (lit≤ tt) hash lock_hash in
    let data_hash = next row _ _ 125 157 (lit≤ tt) c.hash_at-3.ensures type_hash in
    let data_len = next row _ _ 157 161 (lit≤ tt) c.u32_at-4.ensures.bytes data_hash in
    whole row _ 161 c.requires data_len
