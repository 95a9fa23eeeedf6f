use Rattle.std.proofs.Common.{ap, arith, length}
use Rattle.chain_defs.specs.Ext.{Ext}
use Rattle.node_store.proofs.WritingLemmas.{counts_fees}
use Rattle.node_store.proofs.joining.bytes_of.Goals as goal

pub returns-clause-fees : goal.returns-clause-fees
returns-clause-fees c =
    counts_fees c.args.ext.now c.in_ok-bytes.bytes.items c.in_ok-bytes.ensures.bytes
    (omega (arith, ap (λ (e : Ext). length e.fees) c.ext.view_is, c.len.ensures, c.if-len-gt-EXT_LIMIT.false))
