use Rattle.std.proofs.Common.{arith}
use Rattle.pool_rows.proofs.Fits.{array-is}
use Rattle.pool_rows.proofs.block.push_id.Goals as goal

pub returns-clause-id : goal.returns-clause-id
returns-clause-id c = array-is 10 c.args.id.now (λ i. omega (arith, c.fits-id i)) c.told-id

pub returns-in_err-extend_from_slice-clause-id : goal.returns-in_err-extend_from_slice-clause-id
returns-in_err-extend_from_slice-clause-id c = array-is 10 c.args.id.now (λ i. omega (arith, c.fits-id i)) c.told-id
