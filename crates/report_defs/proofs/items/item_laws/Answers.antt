use Rattle.report_defs.proofs.ItemLemmas.{splits-are-one}
use Rattle.report_defs.proofs.items.item_laws.Goals as goal

pub returns : goal.returns
returns c = record { splits_are_one = splits-are-one }
