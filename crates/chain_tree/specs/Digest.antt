-- What the hasher of keys that are digests computes.
use Rattle.std.specs.Prelude.{ℕ, ◌+◌, ◌*◌, ◌%◌, ◌^◌, List, fold}
use Rattle.chain_tree.specs.declared.digest.DigestHasher.{DigestHasher}

-- with one byte more
abbrev pub with_byte : ℕ → ℕ → ℕ
with_byte state byte = ((state * 256) % 2 ^ 64 + byte) % 2 ^ 64

abbrev pub unfed : DigestHasher
unfed = record { 0 = 0 }

abbrev pub fed : DigestHasher → List ℕ → DigestHasher
fed hasher bytes = record { 0 = fold with_byte hasher.0 bytes }

abbrev pub finished : DigestHasher → ℕ
finished hasher = (hasher.0 * 0x9e37_79b9_7f4a_7c15) % 2 ^ 64
