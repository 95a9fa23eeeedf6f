use Rattle.std.proofs.Common.{◌∙◌, arith}
use Rattle.chain_defs.specs.Events.{events_of_block}
use Rattle.cell_state.specs.State.{rows}
use Rattle.chain_defs.specs.Fit.{are_live}
use Rattle.chain_defs.proofs.FitLemmas.{found-same}
use Rattle.chain_defs.specs.Row.{row_after}
use Rattle.cell_state.proofs.FitLemmas.{none-odd}
use Rattle.cell_state.proofs.BelowLemmas.{below-same, after-below}
use Rattle.outside.proofs.Endings.{no_answer, no_memory, no_damage, memory_undamaged}
use Rattle.node_store.proofs.kept.grown.Goals as goal

pub returns-in-Err-apply-clause-undamaged : goal.returns-in-Err-apply-clause-undamaged
returns-in-Err-apply-clause-undamaged g c height above fit damage was =
    none-odd (events_of_block height c.args.block.now) (are_live (rows c.reserve.new.self)) c.in-Err-apply.field-0
    (found-same (events_of_block height c.args.block.now) (rows c.args.cells) (rows c.reserve.new.self) c.in-Ok.ensures.rows fit)
    (c.in-Err-apply.ensures.odd height above)

pub returns-in-Err-clause-of_branch : goal.returns-in-Err-clause-of_branch
returns-in-Err-clause-of_branch g c = tt

pub returns-in-Err-clause-undamaged : goal.returns-in-Err-clause-undamaged
returns-in-Err-clause-undamaged g c = λ _ _ _ damage e. memory_undamaged damage e

pub returns-in-Err-clause-damage : goal.returns-in-Err-clause-damage
returns-in-Err-clause-damage g c = λ damage e. absurd (memory_undamaged damage e)

pub returns-in-Err-clause-reads : goal.returns-in-Err-clause-reads
returns-in-Err-clause-reads g c = no_memory

pub returns-in-Err-clause-most : goal.returns-in-Err-clause-most
returns-in-Err-clause-most g c = omega arith

pub returns-in-Err-apply-clause-of_branch : goal.returns-in-Err-apply-clause-of_branch
returns-in-Err-apply-clause-of_branch g c = tt

pub returns-in-Err-apply-clause-reads : goal.returns-in-Err-apply-clause-reads
returns-in-Err-apply-clause-reads g c = no_damage _

pub returns-in-Ok-apply-clause-undamaged : goal.returns-in-Ok-apply-clause-undamaged
returns-in-Ok-apply-clause-undamaged g c = λ _ _ _ _ e. no_answer _ _ e

pub returns-in-Ok-apply-clause-damage : goal.returns-in-Ok-apply-clause-damage
returns-in-Ok-apply-clause-damage g c = λ _ e. absurd (no_answer _ _ e)

pub returns-in-Ok-apply-clause-reads : goal.returns-in-Ok-apply-clause-reads
returns-in-Ok-apply-clause-reads g c = λ e. no_answer _ _ e

pub returns-in-Ok-apply-clause-of_branch : goal.returns-in-Ok-apply-clause-of_branch
returns-in-Ok-apply-clause-of_branch g c = λ kept parent is there at are. c.in-Ok-apply.ensures.of_branch kept parent is there at (λ o. c.in-Ok.ensures.rows o ∙ are o)

pub returns-in-Err-clause-below : goal.returns-in-Err-clause-below
returns-in-Err-clause-below g c = λ _ _ _. tt

pub returns-in-Err-apply-clause-below : goal.returns-in-Err-apply-clause-below
returns-in-Err-apply-clause-below g c = λ _ _ _. tt

pub returns-in-Ok-apply-clause-below : goal.returns-in-Ok-apply-clause-below
returns-in-Ok-apply-clause-below g c = λ end less are.
    below-same _ (row_after c.args.place (events_of_block 1 c.args.block.now) (rows c.reserve.new.self)) end (λ o. c.in-Ok-apply.ensures.rows 1 o (omega arith))
    (after-below c.args.place (events_of_block 1 c.args.block.now) (rows c.reserve.new.self) end less (below-same _ _ end c.in-Ok.ensures.rows are))
