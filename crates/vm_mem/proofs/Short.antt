-- Immediates of instructions in 32 bits.
use Rattle.std.proofs.Common.{◌≡◌, ℕ, ◌<◌, ◌^◌, ℤ, SFits, to_z, of_z, w32, w64, sym, subst, arith}
use Rattle.std.proofs.Math.Facts.{sfits_widen}
use Rattle.std.proofs.lemmas.Bool.Decides.{nat_tests}
use Rattle.std.proofs.lemmas.Int.{ints, to_z-of_z}
use Rattle.machine_defs.specs.Instruction.{IsImmediate, sign_extended}

short-12 : (n : ℕ) (imm : ℤ) → n < 2 ^ 12 → imm ≡ sign_extended 12 n → SFits w32 imm
unfolding sign_extended
short-12 n imm below is = rw is (grind (arith, ints, nat_tests, below))

short-13 : (n : ℕ) (imm : ℤ) → n < 2 ^ 13 → imm ≡ sign_extended 13 n → SFits w32 imm
unfolding sign_extended
short-13 n imm below is = rw is (grind (arith, ints, nat_tests, below))

short-21 : (n : ℕ) (imm : ℤ) → n < 2 ^ 21 → imm ≡ sign_extended 21 n → SFits w32 imm
unfolding sign_extended
short-21 n imm below is = rw is (grind (arith, ints, nat_tests, below))

short-32 : (n : ℕ) (imm : ℤ) → n < 2 ^ 32 → imm ≡ sign_extended 32 n → SFits w32 imm
unfolding sign_extended
short-32 n imm below is = rw is (grind (arith, ints, nat_tests, below))

-- a number that is passed in 64 bits
passed : (imm : ℤ) → SFits w32 imm → SFits w32 (to_z w64 (of_z w64 imm))
passed imm fits = subst (λ z. SFits w32 z) (sym (to_z-of_z w64 imm (sfits_widen tt fits))) fits

pub passed-12 : (imm : ℤ) → IsImmediate 12 1 imm → SFits w32 (to_z w64 (of_z w64 imm))
passed-12 imm is = passed imm (short-12 is.0 imm is.1 is.3)

pub passed-13 : (imm : ℤ) → IsImmediate 13 2 imm → SFits w32 (to_z w64 (of_z w64 imm))
passed-13 imm is = passed imm (short-13 is.0 imm is.1 is.3)

pub passed-21 : (imm : ℤ) → IsImmediate 21 2 imm → SFits w32 (to_z w64 (of_z w64 imm))
passed-21 imm is = passed imm (short-21 is.0 imm is.1 is.3)

pub passed-32 : (imm : ℤ) → IsImmediate 32 4096 imm → SFits w32 (to_z w64 (of_z w64 imm))
passed-32 imm is = passed imm (short-32 is.0 imm is.1 is.3)
