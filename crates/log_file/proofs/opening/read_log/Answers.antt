use Rattle.std.proofs.Common.{None, ap, sym, subst, arith}
use Rattle.chain_defs.specs.Specification.{Specification}
use Rattle.disk_defs.specs.Log.{LogContent}
use Rattle.log_file.specs.Opening.{IsOpened}
use Rattle.std.specs.Prelude.{IfSome}
use Rattle.log_file.specs.Grammar.{read_with, edition_room}
use Rattle.log_file.proofs.Exits.{on_each, stop_counts, answer_counts, answer_still, counts_on, as_before_then, in_log_also}
use Rattle.log_file.proofs.Whole.{IsRead, told_read, told_wrong_blocks, told_opened, told_ends, told_gate, told_wrong_front}
use Rattle.log_file.proofs.opening.read_log.Goals as goal

pub returns-in-Err-read_later-clause-not_a_store : goal.returns-in-Err-read_later-clause-not_a_store
returns-in-Err-read_later-clause-not_a_store g c =
    let front = c.in-Ok.ensures in
    in_log_also _ _ _ _ c.in-Err-read_later.stop (λ at wrong.
    told_wrong_blocks _ _ c.in-Ok.head.0 c.args.len c.new-reader.result c.read_head.new.reader (read_with (g.V.Visitor.visited c.read_head.new.visitor) c.in-Ok.head.1.entries None) at
    front.as_before.reads c.requires.len c.new-reader.ensures.reading front.start front.found wrong) c.in-Err-read_later.ensures.wrong

all_read : (g : _) (c : goal.After-drop-reader-inside-2 g) → IfSome (g.D.Disk.reads_as c.args.disk.now) (λ image. IsRead image.log c.in-Ok.head.0 c.read_later.new.reader
    (read_with (g.V.Visitor.visited c.read_later.new.visitor) c.read_later.new.tree.entries c.in-Ok-read_later.edition))
all_read g c =
    let front = c.in-Ok.ensures in
    told_read _ _ c.in-Ok.head.0 c.args.len c.new-reader.result c.read_head.new.reader c.read_later.new.reader
    (read_with (g.V.Visitor.visited c.read_head.new.visitor) c.in-Ok.head.1.entries None) (read_with (g.V.Visitor.visited c.read_later.new.visitor) c.read_later.new.tree.entries c.in-Ok-read_later.edition)
    front.as_before.reads c.requires.len c.new-reader.ensures.reading front.start front.found (c.in-Ok-read_later.ensures.found c.in-Ok.head.0)

pub returns-clause-opened : goal.returns-clause-opened
returns-clause-opened g c =
    subst (λ (spec : Specification). IfSome (g.D.Disk.reads_as c.args.disk.now) (λ now. (log : LogContent)
    × IsOpened now.log log spec (g.V.Visitor.visited c.read_later.new.visitor) c.read_later.new.tree.entries)) (sym c.with_edition.ensures)
    (told_opened _ c.in-Ok.head.0 c.read_later.new.reader (read_with (g.V.Visitor.visited c.read_later.new.visitor) c.read_later.new.tree.entries c.in-Ok-read_later.edition) (all_read g c))

pub returns-clause-ends : goal.returns-clause-ends
returns-clause-ends g c =
    told_ends _ c.in-Ok.head.0 c.read_later.new.reader (read_with (g.V.Visitor.visited c.read_later.new.visitor) c.read_later.new.tree.entries c.in-Ok-read_later.edition) c.at-place.result c.at-place.ensures.value
    (all_read g c)

pub returns-clause-gate : goal.returns-clause-gate
returns-clause-gate g c =
    told_gate _ c.in-Ok.head.0 c.read_later.new.reader (read_with (g.V.Visitor.visited c.read_later.new.visitor) c.read_later.new.tree.entries c.in-Ok-read_later.edition) c.at-place.result c.ahead.result.now
    c.is_open-open_gate.result c.at-place.ensures.value c.ahead.ensures c.is_open-open_gate.ensures (all_read g c)

pub returns-in-Err-clause-opened : goal.returns-in-Err-clause-opened
returns-in-Err-clause-opened g c = on_each (g.D.Disk.reads_as c.args.disk.now) _ (λ _. tt)

pub returns-in-Err-clause-ends : goal.returns-in-Err-clause-ends
returns-in-Err-clause-ends g c = on_each (g.D.Disk.reads_as c.args.disk.now) _ (λ _. tt)

pub returns-in-Err-clause-gate : goal.returns-in-Err-clause-gate
returns-in-Err-clause-gate g c = on_each (g.D.Disk.reads_as c.args.disk.now) _ (λ _. tt)

pub returns-in-Err-clause-blocks : goal.returns-in-Err-clause-blocks
returns-in-Err-clause-blocks g c = tt

pub returns-in-Err-clause-place : goal.returns-in-Err-clause-place
returns-in-Err-clause-place g c = tt

pub returns-in-Err-clause-not_a_store : goal.returns-in-Err-clause-not_a_store
returns-in-Err-clause-not_a_store g c =
    in_log_also _ _ _ _ c.in-Err.stop (λ at wrong. told_wrong_front _ _ _ at c.requires.len c.new-reader.ensures.reading wrong) c.in-Err.ensures.wrong

pub returns-in-Err-clause-as_before : goal.returns-in-Err-clause-as_before
returns-in-Err-clause-as_before g c = c.in-Err.ensures.as_before

pub returns-in-Err-clause-cause : goal.returns-in-Err-clause-cause
returns-in-Err-clause-cause g c = stop_counts _ _ _ _ c.in-Err.ensures.cause

pub returns-in-Err-read_later-clause-opened : goal.returns-in-Err-read_later-clause-opened
returns-in-Err-read_later-clause-opened g c = on_each (g.D.Disk.reads_as c.args.disk.now) _ (λ _. tt)

pub returns-in-Err-read_later-clause-ends : goal.returns-in-Err-read_later-clause-ends
returns-in-Err-read_later-clause-ends g c = on_each (g.D.Disk.reads_as c.args.disk.now) _ (λ _. tt)

pub returns-in-Err-read_later-clause-gate : goal.returns-in-Err-read_later-clause-gate
returns-in-Err-read_later-clause-gate g c = on_each (g.D.Disk.reads_as c.args.disk.now) _ (λ _. tt)

pub returns-in-Err-read_later-clause-blocks : goal.returns-in-Err-read_later-clause-blocks
returns-in-Err-read_later-clause-blocks g c = tt

pub returns-in-Err-read_later-clause-place : goal.returns-in-Err-read_later-clause-place
returns-in-Err-read_later-clause-place g c = tt

pub returns-in-Err-read_later-clause-as_before : goal.returns-in-Err-read_later-clause-as_before
returns-in-Err-read_later-clause-as_before g c = as_before_then g.D.Disk.reads_as g.D.Disk.images g.D.Disk.moment g.D.Disk.left_since _ _ _ c.in-Ok.ensures.as_before c.in-Err-read_later.ensures.as_before

pub returns-in-Err-read_later-clause-cause : goal.returns-in-Err-read_later-clause-cause
returns-in-Err-read_later-clause-cause g c = counts_on _ _ _ (answer_still _ _ _ _ c.in-Ok.ensures.cause) (stop_counts _ _ _ _ c.in-Err-read_later.ensures.cause)

pub returns-clause-not_a_store : goal.returns-clause-not_a_store
returns-clause-not_a_store g c = tt

pub returns-clause-as_before : goal.returns-clause-as_before
returns-clause-as_before g c = as_before_then g.D.Disk.reads_as g.D.Disk.images g.D.Disk.moment g.D.Disk.left_since _ _ _ c.in-Ok.ensures.as_before c.in-Ok-read_later.ensures.as_before

pub returns-clause-cause : goal.returns-clause-cause
returns-clause-cause g c = counts_on _ _ _ (answer_still _ _ _ _ c.in-Ok.ensures.cause) (answer_counts _ _ _ _ (answer_still _ _ _ _ c.in-Ok-read_later.ensures.cause))

pub returns-clause-blocks : goal.returns-clause-blocks
returns-clause-blocks g c = c.in-Ok-read_later.ensures.blocks

pub read_head-requires : goal.read_head-requires
read_head-requires g c = record { start = c.new-reader.ensures.at.at; none = c.requires.none }

pub read_later-requires : goal.read_later-requires
read_later-requires g c = c.in-Ok.ensures.blocks

pub returns-clause-place : goal.returns-clause-place
returns-clause-place g c =
    omega (
      arith,
      c.at-place.ensures.value,
      c.in-Ok-read_later.ensures.place c.in-Ok.ensures.place,
      ap (λ (spec : Specification). edition_room spec.second_from) c.with_edition.ensures,
    )
