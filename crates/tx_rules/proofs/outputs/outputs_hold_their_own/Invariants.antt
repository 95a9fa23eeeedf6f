use Rattle.std.proofs.Common.{◌≡◌, drop}
use Rattle.std.specs.List.{list_all, enumerate_from}
use Rattle.chain_defs.specs.Cell.{output_holds_its_own, outputs_hold_their_own}
use Rattle.tx_rules.proofs.outputs.outputs_hold_their_own.Given as goal

abbrev pub invariant-outputs : goal.invariant-outputs
invariant-outputs l =
    outputs_hold_their_own l.tx ≡ list_all (output_holds_its_own l.tx) (enumerate_from l.i (drop l.i l.tx.raw.outputs))
