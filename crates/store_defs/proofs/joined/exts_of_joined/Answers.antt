use Rattle.store_defs.proofs.FeeLaws.{exts-hold-fees}
use Rattle.store_defs.proofs.joined.exts_of_joined.Goals as goal

pub returns : goal.returns
returns c = record { exts_hold_fees = exts-hold-fees }
