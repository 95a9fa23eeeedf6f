use Rattle.std.proofs.Common.{◌∙◌, ap, arith}
use Rattle.chain_defs.specs.CkbHash.{ckbhash}
use Rattle.chain_gen.proofs.Parts.{tx_by_parts}
use Rattle.chain_gen.proofs.transactions.tx_of.Goals as goal

pub returns : goal.returns
returns c = λ t has.
    let size = c.in_ok-bytes.ensures.size in
    tx_by_parts t _ _ _ _ _ has (c.in_ok-bytes.ensures.bytes t has) (omega (arith, size, c.requires.raw, c.requires.witnesses)) c.ckbhash.ensures
    (c.ckbhash-witness_hash.ensures ∙ ap ckbhash c.deref.ensures.value)
