use Rattle.std.proofs.Common.{◌∙◌}
use Rattle.chain_defs.specs.Branch.{branch}
use Rattle.chain_tree.specs.Told.{blocks_of}
use Rattle.chain_tree.proofs.ReadLemmas.{read_on}
use Rattle.tx_rules.proofs.BranchLemmas.{branch-long}
use Rattle.block_judge.proofs.Exits.{as_step}
use Rattle.block_judge.proofs.NextLemmas.{proposed-here}
use Rattle.tx_pool.proofs.assembling.filled.Goals as goal

pub returns-in-Ok-take_items-clause-read : goal.returns-in-Ok-take_items-clause-read
returns-in-Ok-take_items-clause-read g c = read_on c.in-Ok.ensures.read c.in-Ok-take_items.ensures.read

pub returns-clause-read : goal.returns-clause-read
returns-clause-read g c = read_on c.in-Ok.ensures.read c.in-Err-take_items.ensures.read

pub returns-in-Ok-take_items-clause-taken : goal.returns-in-Ok-take_items-clause-taken
returns-in-Ok-take_items-clause-taken g c stored witness told stands is =
    let proposed = proposed-here c.args.context.now.spec.now (branch (blocks_of stored) c.args.context.now.parent) c.in-Ok.proposed _
    (c.in-Ok.ensures.proposed stored told stands.stands.indexed)
    (branch-long (blocks_of stored) c.args.context.now.tree.now.entries c.args.context.now.parent c.entry.result.now stands.stands.indexed c.entry.ensures.entry) in
    c.in-Ok-take_items.ensures.taken stored _ (c.in-Ok.ensures.read.told ∙ told) proposed (c.in-Ok-start.ensures.started stored witness stands.stands is)

pub returns-clause-undamaged : goal.returns-clause-undamaged
returns-clause-undamaged g c stored witness told stands is damage same =
    let proposed = proposed-here c.args.context.now.spec.now (branch (blocks_of stored) c.args.context.now.parent) c.in-Ok.proposed _
    (c.in-Ok.ensures.proposed stored told stands.stands.indexed)
    (branch-long (blocks_of stored) c.args.context.now.tree.now.entries c.args.context.now.parent c.entry.result.now stands.stands.indexed c.entry.ensures.entry) in
    c.in-Err-take_items.ensures.undamaged stored _ (c.in-Ok.ensures.read.told ∙ told) proposed (c.in-Ok-start.ensures.started stored witness stands.stands is) damage (as_step same)
