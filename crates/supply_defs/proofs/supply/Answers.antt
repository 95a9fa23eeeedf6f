use Rattle.supply_defs.proofs.Along.{blocks-step, nothing-is-lost, occupied-stays}
use Rattle.supply_defs.proofs.supply.Goals as goal

pub returns : goal.returns
returns c = record { blocks_step = blocks-step; nothing_is_lost = nothing-is-lost; occupied_stays = occupied-stays }
