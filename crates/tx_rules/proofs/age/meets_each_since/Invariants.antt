use Rattle.std.proofs.Common.{◌≡◌, List, Option, map, drop}
use Rattle.std.specs.List.{list_all, zip}
use Rattle.chain_defs.specs.Schema.{OutPoint}
use Rattle.chain_defs.specs.Row.{Row}
use Rattle.chain_tree.specs.Told.{Stored, blocks_of}
use Rattle.rule_defs.specs.Site.{Site, Found}
use Rattle.rule_defs.specs.Age.{meets_since}
use Rattle.tx_rules.specs.At.{IsSiteOf, AreSeen, found_row}
use Rattle.tx_rules.proofs.age.meets_each_since.Given as goal

abbrev pub invariant-inputs : goal.invariant-inputs
invariant-inputs l = (stored : List Stored) (rows : OutPoint → Option Row) (site : Site) (founds : List Found) → IsSiteOf stored l.at rows site → AreSeen site founds
    → l.found ≡ map (found_row (blocks_of stored) l.at.parent) founds
    → list_all (meets_since site) (zip l.tx.raw.inputs founds) ≡ list_all (meets_since site) (drop l.i (zip l.tx.raw.inputs founds))
