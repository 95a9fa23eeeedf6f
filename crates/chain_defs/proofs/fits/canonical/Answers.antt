use Rattle.chain_defs.proofs.HashLemmas.{hashes-have-32}
use Rattle.chain_defs.proofs.ShapeLemmas.{rows-of-outputs-fit, inputs-fit, few-transactions}
use Rattle.chain_defs.proofs.CountLemmas.{inputs-are-few}
use Rattle.chain_defs.proofs.fits.canonical.Goals as goal

pub returns : goal.returns
returns c = record {
  hashes = hashes-have-32;
  outputs = rows-of-outputs-fit;
  inputs = inputs-fit;
  few_transactions = few-transactions;
  few_inputs = inputs-are-few;
}
