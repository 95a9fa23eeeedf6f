use Rattle.cell_state.specs.Walk.{height_of}
use Rattle.cell_state.proofs.EventLemmas.{left-all}
use Rattle.cell_state.proofs.events.Events.of.Goals as goal

pub returns : goal.returns
returns c = left-all c.args.block.now (height_of c.args.genesis)
