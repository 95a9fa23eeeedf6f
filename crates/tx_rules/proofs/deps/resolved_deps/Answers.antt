use Rattle.std.proofs.Common.{List, Some, map, ap, ◌∙◌, arith}
use Rattle.std.specs.Option.{option_map}
use Rattle.std.proofs.lemmas.List.{take_all}
use Rattle.chain_defs.specs.Schema.{OutPoint, CellDep, RawTransaction}
use Rattle.chain_tree.specs.Told.{blocks_of}
use Rattle.chain_defs.specs.Row.{Row}
use Rattle.rule_defs.specs.Site.{all_there}
use Rattle.rule_defs.specs.Resolving.{cells_of_dep, dep_cells}
use Rattle.tx_rules.specs.At.{found_row}
use Rattle.tx_rules.proofs.DepLemmas.{cells_of_deps, deps-added, deps-none, all-added, none-added}
use Rattle.outside.proofs.Endings.{no_answer, handed}
use Rattle.chain_tree.proofs.ReadLemmas.{unread, read_on}
use Rattle.tx_rules.proofs.deps.resolved_deps.Goals as goal

pub deps-init : goal.deps-init
unfolding all_there
deps-init g c = record {
  read = unread c.args.blocks.now;
  rows = λ stored site tells is. ap (λ (rows : List (OutPoint × Row)). Some rows) c.new-found.ensures.items;
}

pub returns-in-Ok-false : goal.returns-in-Ok-false
unfolding dep_cells
returns-in-Ok-false g c = record {
  read = read_on c.deps.invariant.read c.in-Ok-false.ensures.read;
  resolved = λ stored site tells is.
      let row : _ = found_row (blocks_of stored) c.args.at.now.parent in
      deps-none row c.raw-raw.result.cell_deps c.deps.i c.cell_deps_item.result (cells_of_dep site) c.cell_deps_item.ensures
      (none-added c.deps.found.items c.add_dep.new.found.items _ _ c.in-Ok-false.field-0-test
      (c.in-Ok-false.ensures.resolved stored site (c.deps.invariant.read.told ∙ tells) is))
      ∙ ap (λ (raw : RawTransaction). option_map (map row) (cells_of_deps site raw.cell_deps)) c.raw-raw.ensures;
  undamaged = λ stored site tells is damage same. no_answer _ _ same;
}

pub returns-in-Err : goal.returns-in-Err
returns-in-Err g c = record {
  read = read_on c.deps.invariant.read c.in-Err.ensures.read;
  resolved = λ stored site tells is. tt;
  undamaged = λ stored site tells is damage same.
      c.in-Err.ensures.undamaged stored site (c.deps.invariant.read.told ∙ tells) is damage (handed c.in-Err.stop _ same);
}

pub deps-preserved : goal.deps-preserved
deps-preserved g c = record {
  read = read_on c.deps.invariant.read c.in-Ok-true.ensures.read;
  rows = λ stored site tells is.
      deps-added (found_row (blocks_of stored) c.args.at.now.parent) site c.raw-raw.result.cell_deps c.deps.i c.cell_deps_item.result c.deps.found.items
      c.add_dep.new.found.items (cells_of_dep site) (c.deps.invariant.rows stored site tells is) c.cell_deps_item.ensures
      (all-added c.deps.found.items c.add_dep.new.found.items _ _ c.in-Ok-true.field-0-test
      (c.in-Ok-true.ensures.resolved stored site (c.deps.invariant.read.told ∙ tells) is));
}

pub returns : goal.returns
unfolding dep_cells
returns g c = record {
  read = c.deps.invariant.read;
  resolved = λ stored site tells is.
      let row : _ = found_row (blocks_of stored) c.args.at.now.parent in
      c.deps.invariant.rows stored site tells is
      ∙ ap (λ (deps : List CellDep). option_map (map row) (cells_of_deps site deps))
      (take_all c.deps.i c.raw-raw.result.cell_deps (omega (arith, c.deps-test.false, c.cell_deps_count-i-end.ensures.value)))
      ∙ ap (λ (raw : RawTransaction). option_map (map row) (cells_of_deps site raw.cell_deps)) c.raw-raw.ensures;
  undamaged = λ stored site tells is damage same. no_answer _ _ same;
}
