-- What is put after a log for a block: the bytes of its ext, and its record.
use Rattle.std.proofs.Common.{◌≡◌, ℕ, ◌<◌, ◌≤◌, ◌^◌, List, length, ap, ◌∙◌, arith}
use Rattle.std.proofs.lemmas.Nat.{from_le_bytes-to_le_bytes_4}
use Rattle.chain_defs.specs.Ext.{Ext, ext_bytes, count_at}
use Rattle.disk_defs.specs.Log.{Record}
use Rattle.disk_defs.proofs.Records.{record_length}
use Rattle.log_file.specs.Pieces.{after_gate}
use Rattle.log_file.proofs.Gates.{piece_length}

-- the count at the start is that of the fees
pub counts_fees : (ext : Ext) (bytes : List ℕ) → bytes ≡ ext_bytes ext → length ext.fees < 2 ^ 32 → count_at bytes 0 ≡ length ext.fees
unfolding ext_bytes
counts_fees ext bytes is few = ap (λ (l : List ℕ). count_at l 0) is ∙ from_le_bytes-to_le_bytes_4 (length ext.fees) few

-- no piece is shorter than its header
pub piece_long : (r : Record) (piece : List ℕ) → piece ≡ after_gate r → 6 ≤ length piece
piece_long r piece is = omega (arith, ap length is, piece_length r, record_length r)
