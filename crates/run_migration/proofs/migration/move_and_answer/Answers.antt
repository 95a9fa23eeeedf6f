use Rattle.std.proofs.Common.{inr, [], refl, ap, sym, subst}
use Rattle.std.specs.Prelude.{Err}
use Rattle.outside.specs.Image.{Image}
use Rattle.outside.proofs.Endings.{no_fault, counts-as, no_answer}
use Rattle.outside.proofs.Moments.{now_too}
use Rattle.outside.proofs.Streams.{takes_none}
use Rattle.verdict_defs.specs.Chain.{Chain}
use Rattle.store_defs.specs.declared.moved.Moved.{Moved}
use Rattle.node_store.specs.Node.{NodeValue, IsOnlyImage}
use Rattle.report_defs.specs.Report.{text_of, report_of_moved, report_of_migration}
use Rattle.run_text.specs.Output.{IsSaid}
use Rattle.run_text.proofs.Statuses.{disk_stops}
use Rattle.run_text.proofs.Exits.{same_stop}
use Rattle.run_migration.proofs.MigrationLemmas.{telling_moves, stopped_moves, telling_no_disk_fault, stopped_no_sink, stopped_not_refused, leaves_told, leaves_stopped, refused_not_done, goes_on_moved, others_tell}
use Rattle.run_migration.proofs.migration.move_and_answer.Goals as goal

-- ---- It is known what became of it

pub returns-in-Ok-clause-said : goal.returns-in-Ok-clause-said
returns-in-Ok-clause-said g c =
    let said = c.tell.ensures.said in
    (said.0, said.1, subst (λ (m : Moved). IsSaid (report_of_moved c.args.epoch m) c.tell.result said.0) c.in-Ok.ensures.migrated.answer said.2)

pub returns-in-Ok-clause-one_of : goal.returns-in-Ok-clause-one_of
returns-in-Ok-clause-one_of g c = telling_moves c.tell.result c.tell.ensures.one_of

pub returns-in-Ok-clause-moved : goal.returns-in-Ok-clause-moved
returns-in-Ok-clause-moved g c = λ on.
    let migrated = c.in-Ok.ensures.migrated in
    leaves_told c.args.epoch c.args.node.chain c.in-Ok.moved c.tell.result (g.D.Disk.reads_as c.migrate.new.disk) (g.D.Disk.images c.migrate.new.disk) migrated.answer
    (subst (λ (k : Chain). IsOnlyImage k (g.D.Disk.reads_as c.migrate.new.disk) (g.D.Disk.images c.migrate.new.disk)) (ap (λ (n : NodeValue). n.chain) migrated.same)
    (migrated.on on).image) c.tell.ensures.told

pub returns-in-Ok-clause-moments : goal.returns-in-Ok-clause-moments
returns-in-Ok-clause-moments g c = λ on. c.in-Ok.ensures.left.moments on.sound on.image

pub returns-in-Ok-clause-keeps : goal.returns-in-Ok-clause-keeps
returns-in-Ok-clause-keeps g c = λ records settled.
    goes_on_moved g.D.Disk.reads_as g.D.Disk.images g.D.Disk.moment g.D.Disk.left_since g.met.D.Disk.only_now c.args.disk.now c.migrate.new.disk
    c.args.epoch c.args.node.place c.args.node.chain records settled c.in-Ok.ensures.uncalled (c.in-Ok.ensures.left.keeps records settled)

pub returns-in-Ok-clause-refused : goal.returns-in-Ok-clause-refused
returns-in-Ok-clause-refused g c = λ refused.
    c.in-Ok.ensures.uncalled (refused_not_done c.args.epoch c.args.node.chain c.in-Ok.moved c.tell.result c.in-Ok.ensures.migrated.answer c.tell.ensures.told refused)

pub returns-in-Ok-clause-told : goal.returns-in-Ok-clause-told
returns-in-Ok-clause-told g c = others_tell (g.D.Disk.reads_as c.args.disk.now) (g.D.Disk.reads_as c.migrate.new.disk) c.in-Ok.ensures.others

pub returns-in-Ok-clause-out_faults : goal.returns-in-Ok-clause-out_faults
returns-in-Ok-clause-out_faults g c = c.tell.ensures.faults

pub returns-in-Ok-clause-disk_faults : goal.returns-in-Ok-clause-disk_faults
returns-in-Ok-clause-disk_faults g c =
    no_fault _ _ (c.in-Ok.ensures.cause.unchanged (no_answer _ _)) (telling_no_disk_fault c.tell.result c.tell.ensures.one_of)

-- ---- It was stopped

pub returns-in-Err-clause-said : goal.returns-in-Err-clause-said
returns-in-Err-clause-said g c = (
  [],
  takes_none (g.K.Sink.taken c.args.out.now),
  inr (record {
    stop = disk_stops c.status_of_writing.result c.status_of_writing.ensures.one_of;
    prefix = (text_of (report_of_migration c.args.epoch c.args.node.chain), refl);
    silent = λ _. refl;
  }),
)

pub returns-in-Err-clause-one_of : goal.returns-in-Err-clause-one_of
returns-in-Err-clause-one_of g c = stopped_moves c.status_of_writing.result c.status_of_writing.ensures.one_of

pub returns-in-Err-clause-moved : goal.returns-in-Err-clause-moved
returns-in-Err-clause-moved g c = λ on.
    leaves_stopped c.args.epoch c.args.node.chain c.status_of_writing.result (g.D.Disk.images c.migrate.new.disk) c.status_of_writing.ensures.one_of
    (now_too g.D.Disk.moment g.D.Disk.left_since g.D.Disk.images g.met.D.Disk.counts_now c.args.disk.now c.migrate.new.disk _ (c.in-Err.ensures.left.moments on.sound on.image))

pub returns-in-Err-clause-moments : goal.returns-in-Err-clause-moments
returns-in-Err-clause-moments g c = λ on. c.in-Err.ensures.left.moments on.sound on.image

pub returns-in-Err-clause-keeps : goal.returns-in-Err-clause-keeps
returns-in-Err-clause-keeps g c = λ records settled.
    goes_on_moved g.D.Disk.reads_as g.D.Disk.images g.D.Disk.moment g.D.Disk.left_since g.met.D.Disk.only_now c.args.disk.now c.migrate.new.disk
    c.args.epoch c.args.node.place c.args.node.chain records settled c.in-Err.ensures.uncalled (c.in-Err.ensures.left.keeps records settled)

pub returns-in-Err-clause-refused : goal.returns-in-Err-clause-refused
returns-in-Err-clause-refused g c = λ refused. stopped_not_refused c.status_of_writing.result c.status_of_writing.ensures.one_of refused

pub returns-in-Err-clause-told : goal.returns-in-Err-clause-told
returns-in-Err-clause-told g c = others_tell (g.D.Disk.reads_as c.args.disk.now) (g.D.Disk.reads_as c.migrate.new.disk) c.in-Err.ensures.others

pub returns-in-Err-clause-out_faults : goal.returns-in-Err-clause-out_faults
returns-in-Err-clause-out_faults g c = no_fault _ _ refl (stopped_no_sink c.status_of_writing.result c.status_of_writing.ensures.one_of)

pub returns-in-Err-clause-disk_faults : goal.returns-in-Err-clause-disk_faults
returns-in-Err-clause-disk_faults g c =
    counts-as c.in-Err.ensures.cause
    (λ e. ap Err (c.status_of_writing.ensures.fault.0 e))
    (λ e. c.status_of_writing.ensures.fault.1 (same_stop _ _ e))
