use Rattle.std.proofs.Common.{arith}
use Rattle.std.proofs.lemmas.Grind.{common_steps}
use Rattle.cell_state.proofs.row.put_type_hash.Goals as goal

pub returns-in_ok-extend_from_slice-in-Some-clause-written :
    goal.returns-in_ok-extend_from_slice-in-Some-clause-written
returns-in_ok-extend_from_slice-in-Some-clause-written c = grind (arith, common_steps)
