-- The low bytes of a number, as a store cuts them.
use Rattle.std.proofs.Common.{◌≡◌, ℕ, take, refl}
use Rattle.std.proofs.Math.Nat.{div-div-eq-div-mul}
use Rattle.std.specs.Int.{w64, to_le_bytes}
use Rattle.machine_defs.specs.declared.memory.Width.{Width}
use Rattle.machine_defs.specs.declared.memory.Width.TheVariants.{B1, B2, B4, B8}
use Rattle.machine_defs.specs.Memory.{byte_count, bytes_of}

pub low-bytes : (width : Width) (n : ℕ) → take (byte_count width) (to_le_bytes w64 n) ≡ bytes_of (byte_count width) n
low-bytes B1 n = refl
low-bytes B2 n = refl
low-bytes B4 n = rw (div-div-eq-div-mul n 256 256, div-div-eq-div-mul n 65536 256) refl
low-bytes B8 n =
    rw (
      div-div-eq-div-mul n 256 256,
      div-div-eq-div-mul n 65536 256,
      div-div-eq-div-mul n 16777216 256,
      div-div-eq-div-mul n 4294967296 256,
      div-div-eq-div-mul n 1099511627776 256,
      div-div-eq-div-mul n 281474976710656 256,
    )
    refl
