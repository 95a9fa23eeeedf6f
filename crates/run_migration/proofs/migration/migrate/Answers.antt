use Rattle.std.proofs.Common.{◌≡◌, [], inl, refl, ap, sym, subst, drop, ◌∙◌}
use Rattle.std.specs.Prelude.{Err}
use Rattle.outside.specs.Image.{Image}
use Rattle.outside.specs.Disk.{IsOnlyRead}
use Rattle.outside.proofs.Endings.{no_fault, counts-as, no_answer, after_still}
use Rattle.outside.proofs.Streams.{takes_none}
use Rattle.disk_defs.specs.Log.{records_of}
use Rattle.disk_defs.specs.Rest.{IsSettled}
use Rattle.store_defs.specs.Store.{Keeps, store_of}
use Rattle.node_store.specs.Node.{StandsOnDisk}
use Rattle.report_defs.specs.declared.command.Command.TheVariants.{Migrate}
use Rattle.report_defs.specs.Report.{report_of_migration}
use Rattle.report_defs.specs.Survival.{IsOfEdition}
use Rattle.run_text.proofs.StoreLemmas.{if_told, delivers, opened_there, unopened, sound_opening, sound_here, by_disk_or_memory}
use Rattle.run_text.proofs.Statuses.{opening_no_sink}
use Rattle.run_text.proofs.Exits.{same_stop}
use Rattle.run_store.proofs.RecordLemmas.{opening_keeps}
use Rattle.run_migration.proofs.MigrationLemmas.{migration_said, opening_migrates, moving_migrates, moves_opened, moves_unopened, moves_moved, moved_keeps}
use Rattle.run_migration.proofs.migration.migrate.Goals as goal

-- ---- The store was not opened

pub returns-in-Err-clause-migration : goal.returns-in-Err-clause-migration
returns-in-Err-clause-migration g c = (
  [],
  takes_none (g.K.Sink.taken c.args.out.now),
  λ left.
      let one = c.in-Err.ensures.one_of c.in-Err.status refl in
      unopened (Migrate c.args.epoch) (g.D.Disk.reads_as c.args.disk.now) (g.D.Disk.images c.args.disk.now) (g.D.Disk.images c.open.new.disk)
      (g.D.Disk.left_since c.open.new.disk (g.D.Disk.moment c.args.disk.now)) left c.in-Err.status (λ store found. found) one (λ e. c.in-Err.ensures.not_a_store (ap Err e)) (λ input. refl) (λ input. refl)
      (λ none. none) (λ none. none) (λ chain stop. record { unread = refl; silent = λ early. refl })
      (λ now told chain keeps sound. moves_unopened g.D.Disk.images g.D.Disk.moment g.D.Disk.left_since g.met.D.Disk.counts_now c.args.disk.now c.open.new.disk c.args.epoch chain c.in-Err.status
      (by_disk_or_memory c.in-Err.status one (sound_opening (g.D.Disk.reads_as c.args.disk.now) c.in-Err.status now (λ e. c.in-Err.ensures.not_a_store (ap Err e)) told
      (sound_here (g.D.Disk.reads_as c.args.disk.now) (g.D.Disk.images c.args.disk.now) now (g.met.D.Disk.reads_image c.args.disk.now) told sound)))
      (c.in-Err.ensures.moments now chain told keeps sound)),
)

pub returns-in-Err-clause-status : goal.returns-in-Err-clause-status
returns-in-Err-clause-status g c = opening_migrates c.in-Err.status (c.in-Err.ensures.one_of c.in-Err.status refl)

pub returns-in-Err-clause-records : goal.returns-in-Err-clause-records
returns-in-Err-clause-records g c = λ now chain told keeps.
    opening_keeps g.D.Disk.images g.D.Disk.moment g.D.Disk.left_since g.met.D.Disk.counts_now c.args.disk.now c.open.new.disk (IsOfEdition c.args.epoch chain) now chain (inl refl) keeps
    (c.in-Err.ensures.left.keeps now told)

pub returns-in-Err-clause-told : goal.returns-in-Err-clause-told
returns-in-Err-clause-told g c = c.in-Err.ensures.told

pub returns-in-Err-clause-no_log : goal.returns-in-Err-clause-no_log
returns-in-Err-clause-no_log g c = c.in-Err.ensures.left.no_log

pub returns-in-Err-clause-out_faults : goal.returns-in-Err-clause-out_faults
returns-in-Err-clause-out_faults g c = no_fault _ _ refl (opening_no_sink c.in-Err.status (c.in-Err.ensures.one_of c.in-Err.status refl))

pub returns-in-Err-clause-disk_faults : goal.returns-in-Err-clause-disk_faults
returns-in-Err-clause-disk_faults g c = counts-as c.in-Err.ensures.cause (λ e. ap Err e) (same_stop _ _)

pub returns-in-Err-clause-rests : goal.returns-in-Err-clause-rests
returns-in-Err-clause-rests g c = λ now told rests refused. c.in-Err.ensures.left.rests now told rests

pub returns-in-Err-clause-most : goal.returns-in-Err-clause-most
returns-in-Err-clause-most g c = c.in-Err.ensures.most

-- ---- It was opened, and moved

pub returns-in-Ok-clause-migration : goal.returns-in-Ok-clause-migration
returns-in-Ok-clause-migration g c =
    let reads = g.D.Disk.reads_as c.args.disk.now in
    let node = c.in-Ok.node in
    let said = c.move_and_answer.ensures.said in (
      said.0,
      said.1,
      λ left.
          delivers (Migrate c.args.epoch) reads node.chain (g.D.Disk.images c.args.disk.now) (g.D.Disk.images c.move_and_answer.new.disk)
          (g.D.Disk.left_since c.move_and_answer.new.disk (g.D.Disk.moment c.args.disk.now)) left [] said.0 c.move_and_answer.result (λ store found. found) c.in-Ok.ensures.kept
          (λ whole. report_of_migration c.args.epoch node.chain) (λ whole. refl)
          (λ joined. migration_said c.args.epoch node.chain left said.0 c.move_and_answer.result said.2)
          (moves_opened c.args.epoch reads node.chain (g.D.Disk.images c.args.disk.now) (g.D.Disk.images c.move_and_answer.new.disk)
          (g.D.Disk.left_since c.move_and_answer.new.disk (g.D.Disk.moment c.args.disk.now)) said.0 c.move_and_answer.result c.in-Ok.ensures.kept
          (λ now told keeps sound.
          let on = if_told reads (λ _. StandsOnDisk node (g.D.Disk.reads_as c.open.new.disk) (g.D.Disk.images c.open.new.disk)) now (c.in-Ok.ensures.on sound) told in
          moves_moved g.D.Disk.images g.D.Disk.moment g.D.Disk.left_since g.met.D.Disk.counts_now c.args.disk.now c.open.new.disk c.move_and_answer.new.disk
          c.args.epoch node.chain said.0 c.move_and_answer.result (c.in-Ok.ensures.moments now node.chain told keeps sound)
          (c.move_and_answer.ensures.moved on) (c.move_and_answer.ensures.moments on))),
    )

pub returns-in-Ok-clause-status : goal.returns-in-Ok-clause-status
returns-in-Ok-clause-status g c = moving_migrates c.move_and_answer.result c.move_and_answer.ensures.one_of

pub returns-in-Ok-clause-records : goal.returns-in-Ok-clause-records
returns-in-Ok-clause-records g c = λ now chain told keeps.
    let settled = if_told (g.D.Disk.reads_as c.args.disk.now)
    (λ image. IsSettled c.in-Ok.node.place (records_of (drop 8 image.log)) (g.D.Disk.reads_as c.open.new.disk) (g.D.Disk.images c.open.new.disk)) now c.in-Ok.ensures.settled told in
    moved_keeps g.D.Disk.images g.D.Disk.moment g.D.Disk.left_since g.met.D.Disk.counts_now c.args.disk.now c.open.new.disk c.move_and_answer.new.disk
    c.args.epoch now c.in-Ok.node.chain chain (if_told (g.D.Disk.reads_as c.args.disk.now) (λ image. store_of image ≡ Keeps c.in-Ok.node.chain) now c.in-Ok.ensures.kept told)
    keeps (c.in-Ok.ensures.left.keeps now told) (c.move_and_answer.ensures.keeps (records_of (drop 8 now.log)) settled)

pub returns-in-Ok-clause-told : goal.returns-in-Ok-clause-told
returns-in-Ok-clause-told g c = c.move_and_answer.ensures.told ∙ c.in-Ok.ensures.told

pub returns-in-Ok-clause-no_log : goal.returns-in-Ok-clause-no_log
returns-in-Ok-clause-no_log g c = λ now told none. absurd (opened_there (g.D.Disk.reads_as c.args.disk.now) c.in-Ok.node.chain now c.in-Ok.ensures.kept told none)

pub returns-in-Ok-clause-out_faults : goal.returns-in-Ok-clause-out_faults
returns-in-Ok-clause-out_faults g c = c.move_and_answer.ensures.out_faults

pub returns-in-Ok-clause-disk_faults : goal.returns-in-Ok-clause-disk_faults
returns-in-Ok-clause-disk_faults g c = after_still (c.in-Ok.ensures.cause.unchanged (no_answer _ _)) c.move_and_answer.ensures.disk_faults

pub returns-in-Ok-clause-rests : goal.returns-in-Ok-clause-rests
returns-in-Ok-clause-rests g c = λ now told rests refused.
    subst (λ disk. IsOnlyRead g.D.Disk.reads_as g.D.Disk.images g.D.Disk.moment g.D.Disk.left_since c.args.disk.now disk)
    (sym (c.move_and_answer.ensures.refused refused)) (c.in-Ok.ensures.left.rests now told rests)

pub returns-in-Ok-clause-most : goal.returns-in-Ok-clause-most
returns-in-Ok-clause-most g c = c.in-Ok.ensures.most
