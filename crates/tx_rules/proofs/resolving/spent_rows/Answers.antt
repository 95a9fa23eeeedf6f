use Rattle.std.proofs.Common.{◌≡◌, true, false, Some, None, sym, ap, ◌∙◌}
use Rattle.std.specs.Prelude.{is_some}
use Rattle.outside.specs.declared.disk.ReadStop.TheVariants.{DiskFault, Damaged}
use Rattle.rule_defs.specs.TransactionRules.{has_form}
use Rattle.rule_defs.specs.Resolving.{spends_each_once}
use Rattle.tx_rules.specs.At.{spends_rows, input_rows}
use Rattle.outside.proofs.Endings.{no_answer}
use Rattle.tx_rules.proofs.Endings.{broken_unread, memory_unread, memory_no_damage}
use Rattle.tx_rules.proofs.RuleLemmas.{no-form, not-proposed, spends-badly, spends-well, spends-by-rows}
use Rattle.tx_rules.proofs.RowRuleLemmas.{tried-18, tried-19, tried-20, twice-lost, once-named, follows-memory, follows-form, follows-unproposed, follows-lost, follows-kept}
use Rattle.tx_rules.proofs.resolving.spent_rows.Goals as goal

pub returns-in-Ok-false : goal.returns-in-Ok-false
returns-in-Ok-false g c =
    let form : has_form c.args.tx.now ≡ false = sym c.in-Ok-false.ensures ∙ c.in-Ok-false.field-0-test in
    record {
      stops = tried-18 c.args.proposed;
      by_rows = follows-form c.args.proposed (g.C.Cells.rows c.args.cells.now) c.args.tx.now form;
      unread = broken_unread DiskFault;
      undamaged = λ damage. broken_unread (Damaged damage);
      judged = λ stored at site is. no-form c.args.proposed site c.args.tx.now form;
      form = tt;
      rows = tt;
    }

pub returns-in-Err : goal.returns-in-Err
returns-in-Err g c = record {
  stops = tt;
  by_rows = follows-memory c.args.proposed (g.C.Cells.rows c.args.cells.now) c.args.tx.now;
  unread = memory_unread;
  undamaged = memory_no_damage;
  judged = λ stored at site is. tt;
  form = tt;
  rows = tt;
}

pub returns-then-not-proposed : goal.returns-then-not-proposed
returns-then-not-proposed g c =
    let form : has_form c.args.tx.now ≡ true = sym c.in-Ok-true.ensures ∙ c.in-Ok-true.field-0-test in
    record {
      stops = tried-19 c.args.proposed c.if-not-proposed.true;
      by_rows = follows-unproposed c.args.proposed (g.C.Cells.rows c.args.cells.now) c.args.tx.now form c.if-not-proposed.true;
      unread = broken_unread DiskFault;
      undamaged = λ damage. broken_unread (Damaged damage);
      judged = λ stored at site is. not-proposed c.args.proposed site c.args.tx.now form c.if-not-proposed.true;
      form = tt;
      rows = tt;
    }

pub returns-in-Ok-false-are_inputs_distinct : goal.returns-in-Ok-false-are_inputs_distinct
returns-in-Ok-false-are_inputs_distinct g c =
    let form : has_form c.args.tx.now ≡ true = sym c.in-Ok-true.ensures ∙ c.in-Ok-true.field-0-test in
    let twice : spends_each_once c.args.tx.now ≡ false = sym c.in-Ok-false-are_inputs_distinct.ensures ∙ c.in-Ok-false-are_inputs_distinct.field-0-test in
    let lost : spends_rows (g.C.Cells.rows c.args.cells.now) c.args.tx.now ≡ false = twice-lost (g.C.Cells.rows c.args.cells.now) c.args.tx.now twice in
    record {
      stops = tried-20 c.args.proposed;
      by_rows = follows-lost c.args.proposed (g.C.Cells.rows c.args.cells.now) c.args.tx.now form c.if-not-proposed.false lost;
      unread = broken_unread DiskFault;
      undamaged = λ damage. broken_unread (Damaged damage);
      judged = λ stored at site is. spends-badly c.args.proposed site c.args.tx.now form c.if-not-proposed.false (spends-by-rows stored at (g.C.Cells.rows c.args.cells.now) site c.args.tx.now is ∙ lost);
      form = tt;
      rows = tt;
    }

pub returns-in-Err-are_inputs_distinct : goal.returns-in-Err-are_inputs_distinct
returns-in-Err-are_inputs_distinct g c = record {
  stops = tt;
  by_rows = follows-memory c.args.proposed (g.C.Cells.rows c.args.cells.now) c.args.tx.now;
  unread = memory_unread;
  undamaged = memory_no_damage;
  judged = λ stored at site is. tt;
  form = tt;
  rows = tt;
}

pub returns-in-Ok-Some : goal.returns-in-Ok-Some
returns-in-Ok-Some g c =
    let form : has_form c.args.tx.now ≡ true = sym c.in-Ok-true.ensures ∙ c.in-Ok-true.field-0-test in
    let once : spends_each_once c.args.tx.now ≡ true = sym c.in-Ok-true-are_inputs_distinct.ensures ∙ c.in-Ok-true-are_inputs_distinct.field-0-test in
    let some : input_rows (g.C.Cells.rows c.args.cells.now) c.args.tx.now ≡ Some c.in-Ok-Some.rows.items =
    once-named (g.C.Cells.rows c.args.cells.now) c.args.tx.now (Some c.in-Ok-Some.rows.items) once (sym (rw c.in-Ok-Some.field-0-is at c.in-Ok-Some.ensures)) in
    let kept : spends_rows (g.C.Cells.rows c.args.cells.now) c.args.tx.now ≡ true = ap is_some some in
    record {
      stops = tt;
      by_rows = follows-kept c.args.proposed (g.C.Cells.rows c.args.cells.now) c.args.tx.now _ form c.if-not-proposed.false kept tt;
      unread = no_answer _ _;
      undamaged = λ damage. no_answer _ _;
      judged = λ stored at site is. spends-well c.args.proposed site c.args.tx.now form c.if-not-proposed.false (spends-by-rows stored at (g.C.Cells.rows c.args.cells.now) site c.args.tx.now is ∙ kept);
      form = form;
      rows = some;
    }

pub returns-in-Ok-None : goal.returns-in-Ok-None
returns-in-Ok-None g c =
    let form : has_form c.args.tx.now ≡ true = sym c.in-Ok-true.ensures ∙ c.in-Ok-true.field-0-test in
    let once : spends_each_once c.args.tx.now ≡ true = sym c.in-Ok-true-are_inputs_distinct.ensures ∙ c.in-Ok-true-are_inputs_distinct.field-0-test in
    let lost : spends_rows (g.C.Cells.rows c.args.cells.now) c.args.tx.now ≡ false =
    ap is_some (once-named (g.C.Cells.rows c.args.cells.now) c.args.tx.now None once (sym (rw c.in-Ok-None.field-0-is at c.in-Ok-None.ensures))) in
    record {
      stops = tried-20 c.args.proposed;
      by_rows = follows-lost c.args.proposed (g.C.Cells.rows c.args.cells.now) c.args.tx.now form c.if-not-proposed.false lost;
      unread = broken_unread DiskFault;
      undamaged = λ damage. broken_unread (Damaged damage);
      judged = λ stored at site is. spends-badly c.args.proposed site c.args.tx.now form c.if-not-proposed.false (spends-by-rows stored at (g.C.Cells.rows c.args.cells.now) site c.args.tx.now is ∙ lost);
      form = tt;
      rows = tt;
    }

pub returns-in-Err-live_inputs : goal.returns-in-Err-live_inputs
returns-in-Err-live_inputs g c = record {
  stops = tt;
  by_rows = follows-memory c.args.proposed (g.C.Cells.rows c.args.cells.now) c.args.tx.now;
  unread = memory_unread;
  undamaged = memory_no_damage;
  judged = λ stored at site is. tt;
  form = tt;
  rows = tt;
}
