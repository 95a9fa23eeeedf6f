use Rattle.log_file.specs.Grammar.{blocks_with}
use Rattle.log_file.proofs.Exits.{on_each, stop_counts, answer_counts, answer_still, counts_on, as_before_then, in_log_also}
use Rattle.log_file.proofs.Front.{told_wrong_start, told_wrong_spec, told_wrong_genesis, told_begun}
use Rattle.log_file.proofs.records.read_head.Goals as goal

pub returns-in-Err-clause-wrong : goal.returns-in-Err-clause-wrong
returns-in-Err-clause-wrong g c = in_log_also _ _ _ _ c.in-Err.stop (λ at wrong. told_wrong_start _ c.args.reader.now at wrong) c.in-Err.ensures.wrong

pub returns-in-Err-read_spec-clause-wrong : goal.returns-in-Err-read_spec-clause-wrong
returns-in-Err-read_spec-clause-wrong g c =
    let start = c.in-Ok.ensures in
    in_log_also _ _ _ _ c.in-Err-read_spec.stop (λ at wrong.
    told_wrong_spec _ _ c.args.reader.now c.read_start.new.reader at start.as_before.reads start.at.at start.found start.reading wrong) c.in-Err-read_spec.ensures.wrong

pub returns-in-Err-read_genesis-clause-wrong : goal.returns-in-Err-read_genesis-clause-wrong
returns-in-Err-read_genesis-clause-wrong g c =
    let start = c.in-Ok.ensures in
    let one = c.in-Ok-read_spec.ensures in
    in_log_also _ _ _ _ c.in-Err-read_genesis.stop (λ at wrong.
    told_wrong_genesis _ _ _ c.in-Ok-read_spec.spec c.args.reader.now c.read_start.new.reader c.read_spec.new.reader at start.as_before.reads one.as_before.reads
    start.at.at start.found start.reading one.reading one.found wrong) c.in-Err-read_genesis.ensures.wrong

pub returns-in-Ok-read_genesis-clause-found : goal.returns-in-Ok-read_genesis-clause-found
returns-in-Ok-read_genesis-clause-found g c =
    let start = c.in-Ok.ensures in
    let one = c.in-Ok-read_spec.ensures in
    let two = c.in-Ok-read_genesis.ensures in
    told_begun _ _ _ c.in-Ok-read_spec.spec c.args.reader.now c.read_start.new.reader c.read_spec.new.reader c.read_genesis.new.reader
    (blocks_with (g.V.Visitor.visited c.read_genesis.new.visitor) c.in-Ok-read_genesis.tree.entries) start.as_before.reads one.as_before.reads start.at.at start.reading one.reading one.found two.reading
    two.found two.blocks

pub returns-in-Err-clause-start : goal.returns-in-Err-clause-start
returns-in-Err-clause-start g c = on_each (g.D.Disk.reads_as c.args.disk.now) _ (λ _ _. tt)

pub returns-in-Err-clause-found : goal.returns-in-Err-clause-found
returns-in-Err-clause-found g c = on_each (g.D.Disk.reads_as c.args.disk.now) _ (λ _ _. tt)

pub returns-in-Err-clause-place : goal.returns-in-Err-clause-place
returns-in-Err-clause-place g c = tt

pub returns-in-Err-clause-as_before : goal.returns-in-Err-clause-as_before
returns-in-Err-clause-as_before g c = c.in-Err.ensures.as_before

pub returns-in-Err-clause-cause : goal.returns-in-Err-clause-cause
returns-in-Err-clause-cause g c = stop_counts _ _ _ _ c.in-Err.ensures.cause

pub returns-in-Err-read_spec-clause-start : goal.returns-in-Err-read_spec-clause-start
returns-in-Err-read_spec-clause-start g c = on_each (g.D.Disk.reads_as c.args.disk.now) _ (λ _ _. tt)

pub returns-in-Err-read_spec-clause-found : goal.returns-in-Err-read_spec-clause-found
returns-in-Err-read_spec-clause-found g c = on_each (g.D.Disk.reads_as c.args.disk.now) _ (λ _ _. tt)

pub returns-in-Err-read_spec-clause-place : goal.returns-in-Err-read_spec-clause-place
returns-in-Err-read_spec-clause-place g c = tt

pub returns-in-Err-read_spec-clause-as_before : goal.returns-in-Err-read_spec-clause-as_before
returns-in-Err-read_spec-clause-as_before g c = as_before_then g.D.Disk.reads_as g.D.Disk.images g.D.Disk.moment g.D.Disk.left_since _ _ _ c.in-Ok.ensures.as_before c.in-Err-read_spec.ensures.as_before

pub returns-in-Err-read_spec-clause-cause : goal.returns-in-Err-read_spec-clause-cause
returns-in-Err-read_spec-clause-cause g c = counts_on _ _ _ (answer_still _ _ _ _ c.in-Ok.ensures.cause) (stop_counts _ _ _ _ c.in-Err-read_spec.ensures.cause)

pub returns-in-Err-read_genesis-clause-start : goal.returns-in-Err-read_genesis-clause-start
returns-in-Err-read_genesis-clause-start g c = on_each (g.D.Disk.reads_as c.args.disk.now) _ (λ _ _. tt)

pub returns-in-Err-read_genesis-clause-found : goal.returns-in-Err-read_genesis-clause-found
returns-in-Err-read_genesis-clause-found g c = on_each (g.D.Disk.reads_as c.args.disk.now) _ (λ _ _. tt)

pub returns-in-Err-read_genesis-clause-place : goal.returns-in-Err-read_genesis-clause-place
returns-in-Err-read_genesis-clause-place g c = tt

pub returns-in-Err-read_genesis-clause-as_before : goal.returns-in-Err-read_genesis-clause-as_before
returns-in-Err-read_genesis-clause-as_before g c =
    as_before_then g.D.Disk.reads_as g.D.Disk.images g.D.Disk.moment g.D.Disk.left_since _ _ _ c.in-Ok.ensures.as_before
    (as_before_then g.D.Disk.reads_as g.D.Disk.images g.D.Disk.moment g.D.Disk.left_since _ _ _ c.in-Ok-read_spec.ensures.as_before c.in-Err-read_genesis.ensures.as_before)

pub returns-in-Err-read_genesis-clause-cause : goal.returns-in-Err-read_genesis-clause-cause
returns-in-Err-read_genesis-clause-cause g c =
    counts_on _ _ _ (answer_still _ _ _ _ c.in-Ok.ensures.cause)
    (counts_on _ _ _ (answer_still _ _ _ _ c.in-Ok-read_spec.ensures.cause) (stop_counts _ _ _ _ c.in-Err-read_genesis.ensures.cause))

pub returns-in-Ok-read_genesis-clause-as_before : goal.returns-in-Ok-read_genesis-clause-as_before
returns-in-Ok-read_genesis-clause-as_before g c =
    as_before_then g.D.Disk.reads_as g.D.Disk.images g.D.Disk.moment g.D.Disk.left_since _ _ _ c.in-Ok.ensures.as_before
    (as_before_then g.D.Disk.reads_as g.D.Disk.images g.D.Disk.moment g.D.Disk.left_since _ _ _ c.in-Ok-read_spec.ensures.as_before c.in-Ok-read_genesis.ensures.as_before)

pub returns-in-Ok-read_genesis-clause-cause : goal.returns-in-Ok-read_genesis-clause-cause
returns-in-Ok-read_genesis-clause-cause g c =
    counts_on _ _ _ (answer_still _ _ _ _ c.in-Ok.ensures.cause)
    (counts_on _ _ _ (answer_still _ _ _ _ c.in-Ok-read_spec.ensures.cause) (answer_counts _ _ _ _ (answer_still _ _ _ _ c.in-Ok-read_genesis.ensures.cause)))

pub returns-in-Ok-read_genesis-clause-wrong : goal.returns-in-Ok-read_genesis-clause-wrong
returns-in-Ok-read_genesis-clause-wrong g c = tt

pub returns-in-Err-clause-blocks : goal.returns-in-Err-clause-blocks
returns-in-Err-clause-blocks g c = tt

pub returns-in-Err-read_spec-clause-blocks : goal.returns-in-Err-read_spec-clause-blocks
returns-in-Err-read_spec-clause-blocks g c = tt

pub returns-in-Err-read_genesis-clause-blocks : goal.returns-in-Err-read_genesis-clause-blocks
returns-in-Err-read_genesis-clause-blocks g c = tt

pub returns-in-Ok-read_genesis-clause-blocks : goal.returns-in-Ok-read_genesis-clause-blocks
returns-in-Ok-read_genesis-clause-blocks g c = c.in-Ok-read_genesis.ensures.blocks
