use Rattle.std.proofs.Common.{arith}
use Rattle.pool_rows.proofs.Fits.{array-is}
use Rattle.block_seal.proofs.header.push_hash.Goals as goal

pub returns-clause-hash : goal.returns-clause-hash
returns-clause-hash c = array-is 32 c.args.hash.now (λ i. omega (arith, c.fits-hash i)) c.told-hash

pub returns-in_err-extend_from_slice-clause-hash : goal.returns-in_err-extend_from_slice-clause-hash
returns-in_err-extend_from_slice-clause-hash c = array-is 32 c.args.hash.now (λ i. omega (arith, c.fits-hash i)) c.told-hash
