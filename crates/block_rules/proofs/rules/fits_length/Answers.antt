use Rattle.std.proofs.Common.{rules}
use Rattle.block_rules.proofs.rules.fits_length.Goals as goal

pub returns : goal.returns
returns c = search rules
