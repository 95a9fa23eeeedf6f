use Rattle.std.proofs.Common.{◌≡◌, Ok, None, true, false, ap, arith, rules}
use Rattle.std.proofs.lemmas.Grind.{common_steps}
use Rattle.log_file.specs.Grammar.{read_with}
use Rattle.log_file.proofs.Exits.{damage_same, in_log_also}
use Rattle.log_file.proofs.Progress.{with_each, told_wrong, told_more, told_all}
use Rattle.log_file.proofs.records.read_later.Goals as goal

pub returns-in_err-read_record-clause-wrong : goal.returns-in_err-read_record-clause-wrong
returns-in_err-read_record-clause-wrong g c =
    damage_same c.from_residual.result c.in_err-read_record.field-0.0 _ (λ damage e. search rules)
    (in_log_also _ _ _ _ c.in_err-read_record.field-0.0 (λ at wrong. with_each _ _ (λ spec.
    told_wrong spec c.args.reader.now c.records.reader (read_with (g.V.Visitor.visited c.args.visitor.now) c.args.tree.now.entries None)
    (read_with (g.V.Visitor.visited c.records.visitor) c.records.tree.entries c.records.edition) _ _ at c.records.invariant.as_before.reads (c.records.invariant.told spec) wrong))
    c.in_err-read_record.ensures.wrong)

pub records-preserved : goal.records-preserved
records-preserved g c =
    let yes : c.in_ok-read_record.field-0 ≡ true = search rules in
    let one = c.in_ok-read_record.ensures in
    record {
      as_before = search rules;
      no_fault = grind (arith, common_steps);
      place = λ start. one.place (c.records.invariant.place start) (ap Ok yes);
      blocks = one.blocks;
      told = λ spec. told_more spec c.args.reader.now c.records.reader (read_with (g.V.Visitor.visited c.args.visitor.now) c.args.tree.now.entries None)
          (read_with (g.V.Visitor.visited c.records.visitor) c.records.tree.entries c.records.edition) _ _ c.read_record.new.reader
          (read_with (g.V.Visitor.visited c.read_record.new.visitor) c.read_record.new.tree.entries c.read_record.new.edition) _ (ap Ok yes)
          c.records.invariant.as_before.reads (c.records.invariant.told spec) one.reading one.found one.blocks;
    }

pub returns-clause-found : goal.returns-clause-found
returns-clause-found g c = λ spec.
    let no : c.in_ok-read_record.field-0 ≡ false = search rules in
    let none = c.in_ok-read_record.ensures in
    let stays = none.stays (ap Ok no) in
    told_all spec c.args.reader.now c.records.reader (read_with (g.V.Visitor.visited c.args.visitor.now) c.args.tree.now.entries None)
    (read_with (g.V.Visitor.visited c.records.visitor) c.records.tree.entries c.records.edition) _ _ c.read_record.new.reader
    (read_with (g.V.Visitor.visited c.read_record.new.visitor) c.read_record.new.tree.entries c.read_record.new.edition) _ (ap Ok no) c.records.invariant.as_before.reads
    (c.records.invariant.told spec) none.reading none.ended none.byte stays.0 stays.1
