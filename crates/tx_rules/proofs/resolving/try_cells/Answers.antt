use Rattle.std.proofs.Common.{◌≡◌, true, false, refl, sym, ◌∙◌}
use Rattle.std.specs.List.{list_all}
use Rattle.outside.specs.declared.disk.ReadStop.TheVariants.{DiskFault}
use Rattle.rule_defs.specs.Resolving.{inputs, deps}
use Rattle.rule_defs.specs.Age.{is_mature, meets_each_since}
use Rattle.outside.proofs.Endings.{no_answer}
use Rattle.tx_rules.proofs.Endings.{broken_unread, damage_unread}
use Rattle.tx_rules.proofs.SiteLemmas.{inputs-seen, deps-seen}
use Rattle.tx_rules.proofs.RuleLemmas.{uses-young, young-inputs, young-deps, all-mature, spends-early, makes-badly, uses-well, row-where-cell}
use Rattle.tx_rules.proofs.RowRuleLemmas.{later-23, later-24, later-25}
use Rattle.tx_rules.proofs.resolving.try_cells.Goals as goal

pub returns-in-Ok-false : goal.returns-in-Ok-false
returns-in-Ok-false g c = record {
  later = later-23;
  unread = broken_unread DiskFault;
  judged = λ stored site is spent named.
      let young : list_all (is_mature site) (inputs site c.args.tx.now) ≡ false =
      sym (c.in-Ok-false.ensures.mature stored (g.C.Cells.rows c.args.cells.now) site (inputs site c.args.tx.now) is (inputs-seen site c.args.tx.now) spent)
      ∙ c.in-Ok-false.field-0-test in
      uses-young site c.args.tx.now (young-inputs site c.args.tx.now young);
}

pub returns-in-Err : goal.returns-in-Err
returns-in-Err g c = record {
  later = c.in-Err.ensures.damage c.in-Err.damage refl;
  unread = damage_unread c.in-Err.damage;
  judged = λ stored site is spent named.
      c.in-Err.ensures.undamaged stored (g.C.Cells.rows c.args.cells.now) site (inputs site c.args.tx.now) is (inputs-seen site c.args.tx.now) spent c.in-Err.damage refl;
}

pub returns-in-Ok-false-are_mature : goal.returns-in-Ok-false-are_mature
returns-in-Ok-false-are_mature g c = record {
  later = later-23;
  unread = broken_unread DiskFault;
  judged = λ stored site is spent named.
      let mature : list_all (is_mature site) (inputs site c.args.tx.now) ≡ true =
      sym (c.in-Ok-true.ensures.mature stored (g.C.Cells.rows c.args.cells.now) site (inputs site c.args.tx.now) is (inputs-seen site c.args.tx.now) spent)
      ∙ c.in-Ok-true.field-0-test in
      let young : list_all (is_mature site) (deps site c.args.tx.now) ≡ false =
      sym (c.in-Ok-false-are_mature.ensures.mature stored (g.C.Cells.rows c.args.cells.now) site (deps site c.args.tx.now) is (deps-seen site c.args.tx.now) named)
      ∙ c.in-Ok-false-are_mature.field-0-test in
      uses-young site c.args.tx.now (young-deps site c.args.tx.now mature young);
}

pub returns-in-Err-are_mature : goal.returns-in-Err-are_mature
returns-in-Err-are_mature g c = record {
  later = c.in-Err-are_mature.ensures.damage c.in-Err-are_mature.damage refl;
  unread = damage_unread c.in-Err-are_mature.damage;
  judged = λ stored site is spent named.
      c.in-Err-are_mature.ensures.undamaged stored (g.C.Cells.rows c.args.cells.now) site (deps site c.args.tx.now) is (deps-seen site c.args.tx.now) named
      c.in-Err-are_mature.damage refl;
}

pub returns-in-Ok-false-meets_each_since : goal.returns-in-Ok-false-meets_each_since
returns-in-Ok-false-meets_each_since g c = record {
  later = later-24;
  unread = broken_unread DiskFault;
  judged = λ stored site is spent named.
      let mature : list_all (is_mature site) (inputs site c.args.tx.now) ≡ true =
      sym (c.in-Ok-true.ensures.mature stored (g.C.Cells.rows c.args.cells.now) site (inputs site c.args.tx.now) is (inputs-seen site c.args.tx.now) spent)
      ∙ c.in-Ok-true.field-0-test in
      let all : list_all (is_mature site) (deps site c.args.tx.now) ≡ true =
      sym (c.in-Ok-true-are_mature.ensures.mature stored (g.C.Cells.rows c.args.cells.now) site (deps site c.args.tx.now) is (deps-seen site c.args.tx.now) named)
      ∙ c.in-Ok-true-are_mature.field-0-test in
      let early : meets_each_since site c.args.tx.now ≡ false =
      sym (c.in-Ok-false-meets_each_since.ensures.met stored (g.C.Cells.rows c.args.cells.now) site (inputs site c.args.tx.now) is (inputs-seen site c.args.tx.now) spent)
      ∙ c.in-Ok-false-meets_each_since.field-0-test in
      spends-early site c.args.tx.now (all-mature site c.args.tx.now mature all) early;
}

pub returns-in-Err-meets_each_since : goal.returns-in-Err-meets_each_since
returns-in-Err-meets_each_since g c = record {
  later = c.in-Err-meets_each_since.ensures.damage c.in-Err-meets_each_since.damage refl;
  unread = damage_unread c.in-Err-meets_each_since.damage;
  judged = λ stored site is spent named.
      c.in-Err-meets_each_since.ensures.undamaged stored (g.C.Cells.rows c.args.cells.now) site (inputs site c.args.tx.now) is (inputs-seen site c.args.tx.now) spent
      c.in-Err-meets_each_since.damage refl;
}

pub returns-then-not-makes_good_cells : goal.returns-then-not-makes_good_cells
returns-then-not-makes_good_cells g c = record {
  later = later-25;
  unread = broken_unread DiskFault;
  judged = λ stored site is spent named.
      let mature : list_all (is_mature site) (inputs site c.args.tx.now) ≡ true =
      sym (c.in-Ok-true.ensures.mature stored (g.C.Cells.rows c.args.cells.now) site (inputs site c.args.tx.now) is (inputs-seen site c.args.tx.now) spent)
      ∙ c.in-Ok-true.field-0-test in
      let all : list_all (is_mature site) (deps site c.args.tx.now) ≡ true =
      sym (c.in-Ok-true-are_mature.ensures.mature stored (g.C.Cells.rows c.args.cells.now) site (deps site c.args.tx.now) is (deps-seen site c.args.tx.now) named)
      ∙ c.in-Ok-true-are_mature.field-0-test in
      let met : meets_each_since site c.args.tx.now ≡ true =
      sym (c.in-Ok-true-meets_each_since.ensures.met stored (g.C.Cells.rows c.args.cells.now) site (inputs site c.args.tx.now) is (inputs-seen site c.args.tx.now) spent)
      ∙ c.in-Ok-true-meets_each_since.field-0-test in
      makes-badly site c.args.tx.now (all-mature site c.args.tx.now mature all) met
      (sym (c.makes_good_cells.ensures site (row-where-cell stored c.args.at.now (g.C.Cells.rows c.args.cells.now) site is)) ∙ c.if-not-makes_good_cells.true);
}

pub returns : goal.returns
returns g c = record {
  later = tt;
  unread = no_answer _ _;
  judged = λ stored site is spent named.
      let mature : list_all (is_mature site) (inputs site c.args.tx.now) ≡ true =
      sym (c.in-Ok-true.ensures.mature stored (g.C.Cells.rows c.args.cells.now) site (inputs site c.args.tx.now) is (inputs-seen site c.args.tx.now) spent)
      ∙ c.in-Ok-true.field-0-test in
      let all : list_all (is_mature site) (deps site c.args.tx.now) ≡ true =
      sym (c.in-Ok-true-are_mature.ensures.mature stored (g.C.Cells.rows c.args.cells.now) site (deps site c.args.tx.now) is (deps-seen site c.args.tx.now) named)
      ∙ c.in-Ok-true-are_mature.field-0-test in
      let met : meets_each_since site c.args.tx.now ≡ true =
      sym (c.in-Ok-true-meets_each_since.ensures.met stored (g.C.Cells.rows c.args.cells.now) site (inputs site c.args.tx.now) is (inputs-seen site c.args.tx.now) spent)
      ∙ c.in-Ok-true-meets_each_since.field-0-test in
      uses-well site c.args.tx.now (all-mature site c.args.tx.now mature all) met
      (sym (c.makes_good_cells.ensures site (row-where-cell stored c.args.at.now (g.C.Cells.rows c.args.cells.now) site is)) ∙ c.if-not-makes_good_cells.false);
}
