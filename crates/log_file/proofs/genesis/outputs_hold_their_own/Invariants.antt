use Rattle.std.proofs.Common.{◌≡◌, drop}
use Rattle.std.specs.List.{list_all, enumerate_from}
use Rattle.chain_defs.specs.Cell.{output_holds_its_own, outputs_hold_their_own}
use Rattle.log_file.proofs.genesis.outputs_hold_their_own.Given as goal

abbrev pub invariant-outputs : goal.invariant-outputs
invariant-outputs l =
    outputs_hold_their_own l.transaction ≡ list_all (output_holds_its_own l.transaction) (enumerate_from l.i (drop l.i l.transaction.raw.outputs))
