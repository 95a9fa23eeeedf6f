use Rattle.std.proofs.Common.{◌∙◌}
use Rattle.chain_tree.specs.Told.{blocks_of}
use Rattle.rule_defs.specs.Reward.{part}
use Rattle.outside.proofs.Endings.{no_answer}
use Rattle.chain_tree.proofs.ReadLemmas.{read_on}
use Rattle.rewards.proofs.ReadLemmas.{not_damaged}
use Rattle.rewards.proofs.parts.reward.Goals as goal

pub returns-in-Err-clause-undamaged : goal.returns-in-Err-clause-undamaged
returns-in-Err-clause-undamaged g c stored tells indexes own damage same =
    not_damaged c.in-Err.stop damage (c.in-Err.ensures.sum c.args.spec.now stored (record { is = tells; indexes = indexes; own = own })) same

pub returns-in-Err-proposed_by-clause-read : goal.returns-in-Err-proposed_by-clause-read
returns-in-Err-proposed_by-clause-read g c = read_on c.in-Ok.ensures.read c.in-Err-proposed_by.ensures.read

pub returns-clause-read : goal.returns-clause-read
returns-clause-read g c = read_on c.in-Ok.ensures.read c.in-Ok-proposed_by.ensures.read

pub returns-clause-reward : goal.returns-clause-reward
unfolding part
returns-clause-reward g c stored tells indexes own =
    c.plus-2.ensures _ _
    (c.plus.ensures _ _ (c.issued.ensures (blocks_of stored) indexes) (c.in-Ok.ensures.sum c.args.spec.now stored (record { is = tells; indexes = indexes; own = own })))
    (c.in-Ok-proposed_by.ensures.sum stored (record { is = c.in-Ok.ensures.read.told ∙ tells; indexes = indexes; own = own }))

pub returns-in-Err-clause-of_block : goal.returns-in-Err-clause-of_block
returns-in-Err-clause-of_block g c = c.in-Err.ensures.of_block

pub returns-in-Err-proposed_by-clause-of_block : goal.returns-in-Err-proposed_by-clause-of_block
returns-in-Err-proposed_by-clause-of_block g c stored tells = c.in-Err-proposed_by.ensures.of_block stored (c.in-Ok.ensures.read.told ∙ tells)

pub returns-clause-of_block : goal.returns-clause-of_block
returns-clause-of_block g c stored tells damage same = absurd (no_answer _ _ same)
