use Rattle.chain_defs.proofs.MedianLaws.{medians-are-medians}
use Rattle.chain_defs.proofs.chain.median_laws.Goals as goal

pub returns : goal.returns
returns c = record { are_medians = medians-are-medians }
