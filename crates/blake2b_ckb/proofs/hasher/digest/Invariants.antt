use Rattle.std.proofs.Common.{◌≡◌, ◌*◌, length, take}
use Rattle.std.specs.Prelude.{flat_map}
use Rattle.std.specs.Int.{to_le_bytes, w64}
use Rattle.blake2b_ckb.proofs.hasher.digest.Given as goal

abbrev pub invariant-words : goal.invariant-words
invariant-words l = (length l.out ≡ 32) × (take (8 * l.i) l.out ≡ take (8 * l.i) (flat_map (to_le_bytes w64) l.state))
