use Rattle.std.proofs.Common.{◌≡◌, [], ap, refl}
use Rattle.std.specs.Prelude.{Err}
use Rattle.outside.proofs.Endings.{no_answer, no_fault, counts-as, after_still}
use Rattle.outside.proofs.Streams.{gives_none, takes_none}
use Rattle.run_text.specs.Store.{opening_stops}
use Rattle.run_text.proofs.Exits.{same_stop}
use Rattle.run_text.proofs.Statuses.{opening_no_sink, opening_no_input}
use Rattle.run_text.proofs.StoreLemmas.{opened_there}
use Rattle.run_text.proofs.Tables.{among}
use Rattle.run_store.proofs.LookLemmas.{tells_looked, leaves_looked, only_read_looked}
use Rattle.run_store.proofs.RecordLemmas.{opening_keeps}
use Rattle.ask_defs.specs.Promise.{ask_statuses}
use Rattle.run_ask.proofs.StoreLemmas.{asked_unopened, asked_opened}
use Rattle.run_ask.proofs.asking.ask.Goals as goal

-- ---- The store was not opened

pub returns-in-Err-clause-asked : goal.returns-in-Err-clause-asked
returns-in-Err-clause-asked g c = (
  [],
  [],
  gives_none (g.S.Source.left c.args.input.now),
  takes_none (g.K.Sink.taken c.args.out.now),
  asked_unopened g.D.Disk.reads_as g.D.Disk.images g.D.Disk.moment g.D.Disk.left_since g.met.D.Disk.counts_now c.args.disk.now c.open.new.disk
      (g.S.Source.left c.args.input.now) c.in-Err.status (c.in-Err.ensures.one_of c.in-Err.status refl) (λ e. c.in-Err.ensures.not_a_store (ap Err e))
      (g.met.D.Disk.reads_image c.args.disk.now) c.in-Err.ensures.moments,
)

pub returns-in-Err-clause-status : goal.returns-in-Err-clause-status
returns-in-Err-clause-status g c = among opening_stops ask_statuses refl c.in-Err.status (c.in-Err.ensures.one_of c.in-Err.status refl)

pub returns-in-Err-clause-records : goal.returns-in-Err-clause-records
returns-in-Err-clause-records g c = λ now chain told keeps.
    opening_keeps g.D.Disk.images g.D.Disk.moment g.D.Disk.left_since g.met.D.Disk.counts_now c.args.disk.now c.open.new.disk (λ records. records ≡ []) now chain refl keeps (c.in-Err.ensures.left.keeps now told)

pub returns-in-Err-clause-told : goal.returns-in-Err-clause-told
returns-in-Err-clause-told g c = c.in-Err.ensures.told

pub returns-in-Err-clause-no_log : goal.returns-in-Err-clause-no_log
returns-in-Err-clause-no_log g c = c.in-Err.ensures.left.no_log

pub returns-in-Err-clause-input_faults : goal.returns-in-Err-clause-input_faults
returns-in-Err-clause-input_faults g c = no_fault _ _ refl (opening_no_input c.in-Err.status (c.in-Err.ensures.one_of c.in-Err.status refl))

pub returns-in-Err-clause-out_faults : goal.returns-in-Err-clause-out_faults
returns-in-Err-clause-out_faults g c = no_fault _ _ refl (opening_no_sink c.in-Err.status (c.in-Err.ensures.one_of c.in-Err.status refl))

pub returns-in-Err-clause-disk_faults : goal.returns-in-Err-clause-disk_faults
returns-in-Err-clause-disk_faults g c = counts-as c.in-Err.ensures.cause (λ e. ap Err e) (same_stop _ _)

pub returns-in-Err-clause-rests : goal.returns-in-Err-clause-rests
returns-in-Err-clause-rests g c = c.in-Err.ensures.left.rests

pub returns-in-Err-clause-most : goal.returns-in-Err-clause-most
returns-in-Err-clause-most g c = c.in-Err.ensures.most

-- ---- It was opened, and asked

pub returns-clause-asked : goal.returns-clause-asked
returns-clause-asked g c =
    let said = c.ask_all-status.ensures.asked in
    let left = g.S.Source.left c.ask_all-status.new.input in (
      said.0,
      said.1,
      said.2,
      said.3,
      asked_opened g.D.Disk.reads_as g.D.Disk.images g.D.Disk.moment g.D.Disk.left_since g.met.D.Disk.counts_now g.D.Disk.content_of g.met.D.Disk.content_rests
          c.args.disk.now c.open.new.disk c.ask_all-status.new.disk c.in-Ok.node left said.0 said.1 c.ask_all-status.result
          c.in-Ok.ensures.kept c.in-Ok.ensures.on c.in-Ok.ensures.moments c.in-Ok.ensures.sound c.in-Ok.ensures.told c.ask_all-status.ensures.disk.content said.4,
    )

pub returns-clause-status : goal.returns-clause-status
returns-clause-status g c = c.ask_all-status.ensures.status

pub returns-clause-records : goal.returns-clause-records
returns-clause-records g c = λ now chain told keeps.
    opening_keeps g.D.Disk.images g.D.Disk.moment g.D.Disk.left_since g.met.D.Disk.counts_now c.args.disk.now c.ask_all-status.new.disk (λ records. records ≡ []) now chain refl keeps
    (leaves_looked g.D.Disk.content_of g.D.Disk.reads_as g.D.Disk.images g.D.Disk.moment g.D.Disk.left_since g.met.D.Disk.content_rests g.met.D.Disk.counts_now
    c.args.disk.now c.open.new.disk c.ask_all-status.new.disk _ (c.in-Ok.ensures.left.keeps now told) c.ask_all-status.ensures.disk.content)

pub returns-clause-told : goal.returns-clause-told
returns-clause-told g c =
    tells_looked g.D.Disk.content_of g.D.Disk.reads_as g.D.Disk.images g.D.Disk.moment g.D.Disk.left_since g.met.D.Disk.content_rests
    c.args.disk.now c.open.new.disk c.ask_all-status.new.disk c.in-Ok.ensures.told c.ask_all-status.ensures.disk.content

pub returns-clause-no_log : goal.returns-clause-no_log
returns-clause-no_log g c = λ now told none. absurd (opened_there (g.D.Disk.reads_as c.args.disk.now) c.in-Ok.node.chain now c.in-Ok.ensures.kept told none)

pub returns-clause-input_faults : goal.returns-clause-input_faults
returns-clause-input_faults g c = c.ask_all-status.ensures.input_faults

pub returns-clause-out_faults : goal.returns-clause-out_faults
returns-clause-out_faults g c = c.ask_all-status.ensures.out_faults

pub returns-clause-disk_faults : goal.returns-clause-disk_faults
returns-clause-disk_faults g c = after_still (c.in-Ok.ensures.cause.unchanged (no_answer _ _)) c.ask_all-status.ensures.disk.cause

pub returns-clause-rests : goal.returns-clause-rests
returns-clause-rests g c = λ now told other.
    only_read_looked g.D.Disk.content_of g.D.Disk.reads_as g.D.Disk.images g.D.Disk.moment g.D.Disk.left_since g.met.D.Disk.content_rests g.met.D.Disk.counts_now
    c.args.disk.now c.open.new.disk c.ask_all-status.new.disk (c.in-Ok.ensures.left.rests now told other) c.ask_all-status.ensures.disk.content

pub returns-clause-most : goal.returns-clause-most
returns-clause-most g c = c.in-Ok.ensures.most
