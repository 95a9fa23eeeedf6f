use Rattle.std.proofs.Common.{◌≡◌, ◌+◌, ◌^◌, ◌<◌, List, Option, map, drop}
use Rattle.std.specs.Prelude.{slice_index, sum_by, IsTrue}
use Rattle.std.specs.List.{AllZip, enumerate_from}
use Rattle.chain_defs.specs.Schema.{OutPoint}
use Rattle.chain_defs.specs.Row.{Row}
use Rattle.chain_defs.specs.Branch.{branch_places}
use Rattle.chain_tree.specs.Told.{Stored, blocks_of}
use Rattle.rule_defs.specs.Site.{Site}
use Rattle.rule_defs.specs.Resolving.{inputs, heights}
use Rattle.rule_defs.specs.Withdrawals.{names_deposits}
use Rattle.rule_defs.specs.Capacity.{counted, counted_in}
use Rattle.tx_rules.specs.At.{IsSiteOf}
use Rattle.tx_rules.specs.Outcome.{Copies}
use Rattle.tx_rules.proofs.capacity.counted_in.Given as goal

abbrev pub invariant-inputs : goal.invariant-inputs
invariant-inputs l = ((stored : List Stored) (rows : OutPoint → Option Row) (site : Site) → IsSiteOf stored l.at rows site
    → AllZip (Copies (blocks_of stored) l.at.parent) (inputs site l.tx) l.copies → l.headers ≡ map (slice_index (branch_places (blocks_of stored) l.at.parent)) (heights site l.tx)
    → IsTrue (names_deposits site l.tx)
    → l.sum + sum_by (counted site l.tx) (enumerate_from l.i (drop l.i (inputs site l.tx))) ≡ counted_in site l.tx)
    × (l.sum < 2 ^ 64)
