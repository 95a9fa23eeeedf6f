use Rattle.std.proofs.Common.{List, None, ap, ◌∙◌}
use Rattle.chain_defs.specs.Events.{Event}
use Rattle.chain_defs.specs.Row.{row_after}
use Rattle.cell_state.proofs.ApplyLemmas.{settled-rows, are-settled}
use Rattle.cell_state.proofs.state.State.genesis.Goals as goal

pub invariant_of-result : goal.invariant_of-result
invariant_of-result c =
    are-settled c.replay.new.self (row_after 0 c.of.result (λ _. None)) (c.in_ok-replay.ensures.at (λ _. None) c.new-slots.ensures.at)

pub returns : goal.returns
returns c o =
    settled-rows c.replay.new.self (row_after 0 c.of.result (λ _. None)) (c.in_ok-replay.ensures.at (λ _. None) c.new-slots.ensures.at) o
    ∙ ap (λ (es : List Event). row_after 0 es (λ _. None) o) c.of.ensures
