use Rattle.std.proofs.Common.{◌≡◌, Bool, List, [], ◌∷◌, ◌++◌, Option, Some, None, map, sym, ap, ◌∙◌, arith}
use Rattle.std.specs.Prelude.{if◌then◌else◌}
use Rattle.std.specs.Option.{option_map}
use Rattle.std.proofs.lemmas.Bool.{ne_eqb}
use Rattle.chain_defs.specs.Schema.{OutPoint}
use Rattle.chain_tree.specs.Told.{blocks_of}
use Rattle.chain_defs.specs.Row.{Row}
use Rattle.rule_defs.specs.Site.{Found}
use Rattle.rule_defs.specs.Resolving.{cells_of_dep}
use Rattle.tx_rules.specs.At.{found_row, find_row}
use Rattle.tx_rules.proofs.DepLemmas.{SeenRow, seen-row, unseen, dep-none, dep-other, dep-code, dep-group, ok-same}
use Rattle.outside.proofs.Endings.{no_answer, memory_undamaged}
use Rattle.chain_tree.proofs.ReadLemmas.{unread, read_short}
use Rattle.tx_rules.proofs.deps.add_dep.Goals as goal

pub returns-in_default : goal.returns-in_default
returns-in_default g c = record {
  read = unread c.args.blocks.now;
  resolved = λ stored site tells is.
      let rows : OutPoint → Option Row = g.C.Cells.rows c.args.cells.now in
      let none : find_row rows c.args.dep.now.out_point ≡ None = ap (find_row rows) (sym c.out_point.ensures) ∙ sym c.find_row.ensures ∙ c.in_default.is in
      sym (ap (λ (cells : Option (List Found)). option_map (λ (rows : List (OutPoint × Row)). c.args.found.now.items ++ rows)
      (option_map (map (found_row (blocks_of stored) c.args.at.now.parent)) cells))
      (dep-none site c.args.dep.now (unseen stored c.args.at.now rows site c.args.dep.now.out_point is none)));
  undamaged = λ stored site tells is damage same. no_answer _ _ same;
}

pub returns-in-Ok : goal.returns-in-Ok
returns-in-Ok g c = record {
  read = unread c.args.blocks.now;
  resolved = λ stored site tells is.
      let rows : OutPoint → Option Row = g.C.Cells.rows c.args.cells.now in
      let found : find_row rows c.args.dep.now.out_point ≡ Some c.in-Some.row = ap (find_row rows) (sym c.out_point.ensures) ∙ sym c.find_row.ensures ∙ c.in-Some.is in
      let seen : SeenRow stored c.args.at.now rows site c.args.dep.now.out_point c.in-Some.row.0 c.in-Some.row.1 =
      seen-row stored c.args.at.now rows site c.args.dep.now.out_point c.in-Some.row.0 c.in-Some.row.1 is found in
      ap (λ (list : List (OutPoint × Row)). Some list) c.in-Ok.ensures.items
      ∙ ap (option_map (λ (list : List (OutPoint × Row)). c.args.found.now.items ++ list)) {x = Some (c.in-Some.row ∷ [])}
      {y = option_map (map (found_row (blocks_of stored) c.args.at.now.parent)) (cells_of_dep site c.args.dep.now)}
      (dep-code stored c.args.at.now rows site c.args.dep.now c.in-Some.row.0 c.in-Some.row.1 seen (sym c.dep_type.ensures ∙ c.in-0.is));
  undamaged = λ stored site tells is damage same. no_answer _ _ same;
}

pub returns-in-Err : goal.returns-in-Err
returns-in-Err g c = record {
  read = read_short (unread c.args.blocks.now);
  resolved = λ stored site tells is. tt;
  undamaged = λ stored site tells is damage same. memory_undamaged damage same;
}

pub add_group_of-requires : goal.add_group_of-requires
add_group_of-requires g c = record {
  placed = c.requires.placed;
  counts = c.requires.counts;
}

pub returns-in-1 : goal.returns-in-1
returns-in-1 g c = record {
  read = c.add_group_of.ensures.read;
  resolved = λ stored site tells is.
      let rows : OutPoint → Option Row = g.C.Cells.rows c.args.cells.now in
      let found : find_row rows c.args.dep.now.out_point ≡ Some c.in-Some.row = ap (find_row rows) (sym c.out_point.ensures) ∙ sym c.find_row.ensures ∙ c.in-Some.is in
      let seen : SeenRow stored c.args.at.now rows site c.args.dep.now.out_point c.in-Some.row.0 c.in-Some.row.1 =
      seen-row stored c.args.at.now rows site c.args.dep.now.out_point c.in-Some.row.0 c.in-Some.row.1 is found in
      ok-same _ (λ (all : Bool). if all then Some c.add_group_of.new.found.items else None) _ _
      (ap (option_map (λ (list : List (OutPoint × Row)). c.args.found.now.items ++ list))
      (dep-group stored c.args.at.now rows site c.args.dep.now c.in-Some.row.0 c.in-Some.row.1 is seen (sym c.dep_type.ensures ∙ c.in-1.is)))
      (c.add_group_of.ensures.rows stored site seen.cell tells is (ap site.cell seen.same ∙ seen.seen) seen.its_row);
  undamaged = λ stored site tells is.
      let rows : OutPoint → Option Row = g.C.Cells.rows c.args.cells.now in
      let found : find_row rows c.args.dep.now.out_point ≡ Some c.in-Some.row = ap (find_row rows) (sym c.out_point.ensures) ∙ sym c.find_row.ensures ∙ c.in-Some.is in
      let seen : SeenRow stored c.args.at.now rows site c.args.dep.now.out_point c.in-Some.row.0 c.in-Some.row.1 =
      seen-row stored c.args.at.now rows site c.args.dep.now.out_point c.in-Some.row.0 c.in-Some.row.1 is found in
      c.add_group_of.ensures.undamaged stored site seen.cell tells is (ap site.cell seen.same ∙ seen.seen) seen.its_row;
}

pub returns-in_default-dep_type : goal.returns-in_default-dep_type
returns-in_default-dep_type g c = record {
  read = unread c.args.blocks.now;
  resolved = λ stored site tells is.
      sym (ap (λ (cells : Option (List Found)). option_map (λ (rows : List (OutPoint × Row)). c.args.found.now.items ++ rows)
      (option_map (map (found_row (blocks_of stored) c.args.at.now.parent)) cells))
      (dep-other site c.args.dep.now (ne_eqb c.args.dep.now.dep_type 0 (λ same. let type = c.dep_type.ensures in omega (arith, same, type)))
      (ne_eqb c.args.dep.now.dep_type 1 (λ same. let type = c.dep_type.ensures in omega (arith, same, type)))));
  undamaged = λ stored site tells is damage same. no_answer _ _ same;
}
