use Rattle.std.proofs.Common.{◌≡◌, Some, None, Err, map, ap}
use Rattle.std.specs.Prelude.{slice_index}
use Rattle.std.specs.Option.{option_map}
use Rattle.chain_defs.specs.Branch.{branch_places}
use Rattle.chain_tree.specs.Told.{blocks_of}
use Rattle.rule_defs.specs.Resolving.{dep_cells, header_heights}
use Rattle.tx_rules.specs.At.{found_row}
use Rattle.tx_rules.specs.Steps.{naming_rules}
use Rattle.chain_tree.proofs.ReadLemmas.{read_short}
use Rattle.tx_rules.proofs.RuleLemmas.{no-cell-deps, no-header-deps, names-well, found-none, found-some, found-list, read-stops}
use Rattle.tx_rules.proofs.RowRuleLemmas.{later-21, later-22, later-read}
use Rattle.tx_rules.proofs.resolving.named_rows.Goals as goal

pub returns-in-Ok-None : goal.returns-in-Ok-None
returns-in-Ok-None g c = record {
  read = c.in-Ok-None.ensures.read;
  later = later-21;
  exact = λ stored site tells is.
      let none : None ≡ option_map (map (found_row (blocks_of stored) c.args.at.now.parent)) (dep_cells site c.args.tx.now) =
      rw c.in-Ok-None.field-0-is at (c.in-Ok-None.ensures.resolved stored site tells is) in
      no-cell-deps site c.args.tx.now (found-none (found_row (blocks_of stored) c.args.at.now.parent) (dep_cells site c.args.tx.now) none);
  headers = tt;
}

pub returns-in-Err : goal.returns-in-Err
returns-in-Err g c = record {
  read = c.in-Err.ensures.read;
  later = later-read c.in-Err.stop (λ damage same. c.in-Err.ensures.read.damage damage (ap Some same));
  exact = λ stored site tells is.
      read-stops (naming_rules site c.args.tx.now) c.in-Err.stop (λ damage same. c.in-Err.ensures.undamaged stored site tells is damage (ap Err same));
  headers = tt;
}

pub returns-in-Ok-Some-header_places : goal.returns-in-Ok-Some-header_places
returns-in-Ok-Some-header_places g c = record {
  read = c.in-Ok-Some.ensures.read;
  later = tt;
  exact = λ stored site tells is.
      let some : Some c.in-Ok-Some.rows.items ≡ option_map (map (found_row (blocks_of stored) c.args.at.now.parent)) (dep_cells site c.args.tx.now) =
      rw c.in-Ok-Some.field-0-is at (c.in-Ok-Some.ensures.resolved stored site tells is) in
      let all : Some c.in-Ok-Some-header_places.places.items ≡ option_map (map (slice_index (branch_places (blocks_of stored) c.args.at.now.parent))) (header_heights site c.args.tx.now) =
      rw c.in-Ok-Some-header_places.field-0-is at (c.in-Ok-Some-header_places.ensures.heights stored (g.C.Cells.rows c.args.cells.now) site is) in (
        names-well site c.args.tx.now (found-some (found_row (blocks_of stored) c.args.at.now.parent) (dep_cells site c.args.tx.now) c.in-Ok-Some.rows.items some)
            (found-some (slice_index (branch_places (blocks_of stored) c.args.at.now.parent)) (header_heights site c.args.tx.now) c.in-Ok-Some-header_places.places.items all),
        record {
          named_are = found-list (found_row (blocks_of stored) c.args.at.now.parent) (dep_cells site c.args.tx.now) c.in-Ok-Some.rows.items some;
          places_are = found-list (slice_index (branch_places (blocks_of stored) c.args.at.now.parent)) (header_heights site c.args.tx.now) c.in-Ok-Some-header_places.places.items all;
        },
      );
  headers = rw c.in-Ok-Some-header_places.field-0-is at c.in-Ok-Some-header_places.ensures.found;
}

pub returns-in-Ok-None-header_places : goal.returns-in-Ok-None-header_places
returns-in-Ok-None-header_places g c = record {
  read = c.in-Ok-Some.ensures.read;
  later = later-22;
  exact = λ stored site tells is.
      let some : Some c.in-Ok-Some.rows.items ≡ option_map (map (found_row (blocks_of stored) c.args.at.now.parent)) (dep_cells site c.args.tx.now) =
      rw c.in-Ok-Some.field-0-is at (c.in-Ok-Some.ensures.resolved stored site tells is) in
      let none : None ≡ option_map (map (slice_index (branch_places (blocks_of stored) c.args.at.now.parent))) (header_heights site c.args.tx.now) =
      rw c.in-Ok-None-header_places.field-0-is at (c.in-Ok-None-header_places.ensures.heights stored (g.C.Cells.rows c.args.cells.now) site is) in
      no-header-deps site c.args.tx.now (found-some (found_row (blocks_of stored) c.args.at.now.parent) (dep_cells site c.args.tx.now) c.in-Ok-Some.rows.items some)
      (found-none (slice_index (branch_places (blocks_of stored) c.args.at.now.parent)) (header_heights site c.args.tx.now) none);
  headers = tt;
}

pub returns-in-Err-header_places : goal.returns-in-Err-header_places
returns-in-Err-header_places g c = record {
  read = read_short c.in-Ok-Some.ensures.read;
  later = tt;
  exact = λ stored site tells is. tt;
  headers = tt;
}
