use Rattle.chain_defs.proofs.Spans.{spans_its_blocks}
use Rattle.chain_defs.proofs.time.epoch_laws.Goals as goal

pub returns : goal.returns
returns c = record { spans_its_blocks = spans_its_blocks }
