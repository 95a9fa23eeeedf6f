use Rattle.std.proofs.Common.{◌≡◌, ℕ, ◌+◌, ◌%◌, ◌^◌, arith}
use Rattle.blake2b_ckb.specs.Compression.{half_mix}
use Rattle.blake2b_ckb.proofs.compression.half_mix.Goals as goal

-- the sum of three words, with the carries dropped at once or one after the other
wrapped_sum : (p q n : ℕ) → ((p + q) % 2 ^ 64 + n) % 2 ^ 64 ≡ (p + (q + n)) % 2 ^ 64
wrapped_sum p q n = omega arith

pub returns : goal.returns
unfolding half_mix
returns c = simp (c.rotate_right-2.ensures, c.rotate_right.ensures, wrapped_sum)
