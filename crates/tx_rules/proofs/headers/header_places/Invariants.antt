use Rattle.std.proofs.Common.{◌≡◌, Option, Some, List, map, take}
use Rattle.std.specs.Prelude.{slice_index}
use Rattle.std.specs.Option.{option_map}
use Rattle.std.specs.List.{AllZip}
use Rattle.chain_defs.specs.Schema.{OutPoint}
use Rattle.chain_defs.specs.Row.{Row}
use Rattle.chain_defs.specs.Branch.{branch_places}
use Rattle.chain_tree.specs.Entries.{place_of_hash}
use Rattle.chain_tree.specs.Told.{Stored, blocks_of}
use Rattle.rule_defs.specs.Site.{Site, all_there}
use Rattle.rule_defs.specs.Resolving.{named_ancestor}
use Rattle.tx_rules.specs.At.{IsSiteOf}
use Rattle.tx_rules.proofs.headers.header_places.Given as goal

-- the places of the header deps before the i-th
abbrev pub invariant-deps : goal.invariant-deps
invariant-deps l = record {
  found : AllZip (λ hash place. place_of_hash l.at.entries hash ≡ Some place) (take l.i l.tx.raw.header_deps) l.places.items;
  heights : (stored : List Stored) (rows : OutPoint → Option Row) (site : Site) → IsSiteOf stored l.at rows site
      → Some l.places.items ≡ all_there (map (λ hash. option_map (slice_index (branch_places (blocks_of stored) l.at.parent)) (named_ancestor site hash)) (take l.i l.tx.raw.header_deps));
}
