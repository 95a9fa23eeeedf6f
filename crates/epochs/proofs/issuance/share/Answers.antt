use Rattle.std.proofs.Common.{rules}
use Rattle.chain_defs.proofs.EpochLength.{keeps_s2-some}
use Rattle.chain_defs.proofs.Shares.{shares-sum}
use Rattle.epochs.proofs.issuance.share.Goals as goal

pub returns-then-number-blocks-clause-whole : goal.returns-then-number-blocks-clause-whole
returns-then-number-blocks-clause-whole c = shares-sum c.args.length c.args.reward (keeps_s2-some _ c.requires)

pub returns-else-number-blocks-clause-whole : goal.returns-else-number-blocks-clause-whole
returns-else-number-blocks-clause-whole c = shares-sum c.args.length c.args.reward (keeps_s2-some _ c.requires)

pub returns-then-number-blocks-clause-share : goal.returns-then-number-blocks-clause-share
returns-then-number-blocks-clause-share c = search rules

pub returns-else-number-blocks-clause-share : goal.returns-else-number-blocks-clause-share
returns-else-number-blocks-clause-share c = search rules
