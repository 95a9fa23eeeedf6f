use Rattle.chain_defs.proofs.TipLaws.{tips-are-tips}
use Rattle.chain_defs.proofs.chain.tip_laws.Goals as goal

pub returns : goal.returns
returns c = record { are_tips = tips-are-tips }
