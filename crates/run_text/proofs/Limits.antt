-- Limits as numbers.
use Rattle.std.proofs.Common.{◌≡◌, refl}
use Rattle.report_defs.specs.Report.{item_limit}

pub item_limit-is : item_limit ≡ 1048576
unfolding item_limit
item_limit-is = refl
