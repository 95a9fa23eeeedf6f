use Rattle.std.proofs.Common.{ℕ, get_or, ap, add-zero, arith}
use Rattle.chain_defs.specs.Molecule.{header_number}
use Rattle.mol_schema.proofs.Reading.{get_or-four_bytes}
use Rattle.mol_schema.proofs.little_endian.read_u32.Goals as goal

pub returns-clause-value : goal.returns-clause-value
unfolding header_number
returns-clause-value c =
    let bytes = c.args.bytes.now in
    let at = c.args.at in
    let byte = get_or-four_bytes bytes at in
    omega (arith, c.from_le_bytes.ensures, byte 0 (omega arith), byte 1 (omega arith), byte 2 (omega arith), byte 3 (omega arith), ap (λ (n : ℕ). get_or bytes n 0) (add-zero at))
