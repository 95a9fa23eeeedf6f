use Rattle.store_defs.proofs.ExtLaws.{exts-hold-spent-rows, exts-take-back}
use Rattle.store_defs.proofs.KeptLaws.{kept-exts-take-back}
use Rattle.store_defs.proofs.exts.exts_of_blocks.Goals as goal

pub returns : goal.returns
returns c = record { hold_spent_rows = exts-hold-spent-rows; take_back = exts-take-back; kept_take_back = kept-exts-take-back }
