use Rattle.std.proofs.Common.{◌≡◌, List, Option, map, drop}
use Rattle.std.specs.Prelude.{slice_index}
use Rattle.std.specs.List.{AllZip, list_all, enumerate_from}
use Rattle.chain_defs.specs.Schema.{OutPoint}
use Rattle.chain_defs.specs.Row.{Row}
use Rattle.chain_defs.specs.Branch.{branch_places}
use Rattle.chain_tree.specs.Told.{Stored, blocks_of}
use Rattle.rule_defs.specs.Site.{Site}
use Rattle.rule_defs.specs.Resolving.{inputs, heights}
use Rattle.rule_defs.specs.Withdrawals.{withdraws_well, names_deposits}
use Rattle.tx_rules.specs.At.{IsSiteOf}
use Rattle.tx_rules.specs.Outcome.{Copies}
use Rattle.tx_rules.proofs.withdrawals.all_withdraw_well.Given as goal

abbrev pub invariant-inputs : goal.invariant-inputs
invariant-inputs l = (stored : List Stored) (rows : OutPoint → Option Row) (site : Site) → IsSiteOf stored l.at rows site
    → AllZip (Copies (blocks_of stored) l.at.parent) (inputs site l.tx) l.copies → l.headers ≡ map (slice_index (branch_places (blocks_of stored) l.at.parent)) (heights site l.tx)
    → names_deposits site l.tx ≡ list_all (withdraws_well site l.tx) (enumerate_from l.i (drop l.i (inputs site l.tx)))
