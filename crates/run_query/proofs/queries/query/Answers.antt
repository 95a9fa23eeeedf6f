use Rattle.std.proofs.Common.{◌≡◌, [], refl, ap}
use Rattle.std.specs.Prelude.{None, Err}
use Rattle.outside.proofs.Endings.{no_fault, counts-as, no_answer, after_still}
use Rattle.outside.proofs.Streams.{takes_none}
use Rattle.report_defs.specs.declared.command.Command.TheVariants.{Query}
use Rattle.node_store.specs.Node.{IsSoundWhereTold}
use Rattle.report_defs.specs.Report.{report_of_query}
use Rattle.run_text.proofs.StoreLemmas.{delivers_over, keeps_unopened, opened_there, unopened, sound_opening, sound_here, by_disk_or_memory}
use Rattle.run_query.proofs.Statuses.{query_opening}
use Rattle.run_text.proofs.Statuses.{opening_no_sink}
use Rattle.run_text.proofs.Exits.{same_stop}
use Rattle.run_store.proofs.DiskLemmas.{found_sound}
use Rattle.run_store.proofs.LookLemmas.{tells_looked, leaves_looked, only_read_looked, keeps_looked}
use Rattle.run_store.proofs.RecordLemmas.{opening_keeps}
use Rattle.run_query.proofs.queries.query.Goals as goal

-- ---- The store was not opened

pub returns-in-Err-clause-query : goal.returns-in-Err-clause-query
returns-in-Err-clause-query g c = (
  [],
  takes_none (g.K.Sink.taken c.args.out.now),
  λ left.
      let one = c.in-Err.ensures.one_of c.in-Err.status refl in
      unopened (Query c.args.asked) (g.D.Disk.reads_as c.args.disk.now) (g.D.Disk.images c.args.disk.now) (g.D.Disk.images c.open.new.disk)
      (g.D.Disk.left_since c.open.new.disk (g.D.Disk.moment c.args.disk.now)) left c.in-Err.status (λ store found. found) one (λ e. c.in-Err.ensures.not_a_store (ap Err e)) (λ input. refl) (λ input. refl)
      (λ none. none) (λ none. none) (λ chain stop. record { unread = refl; silent = λ early. refl })
      (λ now told chain keeps sound. keeps_unopened g.D.Disk.images g.D.Disk.moment g.D.Disk.left_since g.met.D.Disk.counts_now None c.args.disk.now c.open.new.disk chain [] c.in-Err.status
      (by_disk_or_memory c.in-Err.status one (sound_opening (g.D.Disk.reads_as c.args.disk.now) c.in-Err.status now (λ e. c.in-Err.ensures.not_a_store (ap Err e)) told
      (sound_here (g.D.Disk.reads_as c.args.disk.now) (g.D.Disk.images c.args.disk.now) now (g.met.D.Disk.reads_image c.args.disk.now) told sound)))
      (c.in-Err.ensures.moments now chain told keeps sound)),
)

pub returns-in-Err-clause-status : goal.returns-in-Err-clause-status
returns-in-Err-clause-status g c = query_opening c.in-Err.status (c.in-Err.ensures.one_of c.in-Err.status refl)

pub returns-in-Err-clause-records : goal.returns-in-Err-clause-records
returns-in-Err-clause-records g c = λ now chain told keeps.
    opening_keeps g.D.Disk.images g.D.Disk.moment g.D.Disk.left_since g.met.D.Disk.counts_now c.args.disk.now c.open.new.disk (λ records. records ≡ []) now chain refl keeps (c.in-Err.ensures.left.keeps now told)

pub returns-in-Err-clause-told : goal.returns-in-Err-clause-told
returns-in-Err-clause-told g c = c.in-Err.ensures.told

pub returns-in-Err-clause-no_log : goal.returns-in-Err-clause-no_log
returns-in-Err-clause-no_log g c = c.in-Err.ensures.left.no_log

pub returns-in-Err-clause-out_faults : goal.returns-in-Err-clause-out_faults
returns-in-Err-clause-out_faults g c = no_fault _ _ refl (opening_no_sink c.in-Err.status (c.in-Err.ensures.one_of c.in-Err.status refl))

pub returns-in-Err-clause-disk_faults : goal.returns-in-Err-clause-disk_faults
returns-in-Err-clause-disk_faults g c = counts-as c.in-Err.ensures.cause (λ e. ap Err e) (same_stop _ _)

pub returns-in-Err-clause-rests : goal.returns-in-Err-clause-rests
returns-in-Err-clause-rests g c = c.in-Err.ensures.left.rests

pub returns-in-Err-clause-most : goal.returns-in-Err-clause-most
returns-in-Err-clause-most g c = c.in-Err.ensures.most

-- ---- It was opened, and looked at

pub returns-clause-query : goal.returns-clause-query
returns-clause-query g c =
    let told = c.find_and_answer-status.ensures.told in
    let looked = c.find_and_answer-status.ensures.disk.content in
    let node = c.in-Ok.node in (
      told.0,
      told.1,
      λ left.
          delivers_over (IsSoundWhereTold node (g.D.Disk.reads_as c.open.new.disk)) (Query c.args.asked) (g.D.Disk.reads_as c.args.disk.now) node.chain
          (g.D.Disk.images c.args.disk.now) (g.D.Disk.images c.find_and_answer-status.new.disk)
          (g.D.Disk.left_since c.find_and_answer-status.new.disk (g.D.Disk.moment c.args.disk.now)) left [] told.0 c.find_and_answer-status.result (λ store found. found) c.in-Ok.ensures.kept
          (λ store found. found_sound node (g.D.Disk.reads_as c.args.disk.now) (g.D.Disk.reads_as c.open.new.disk) store c.in-Ok.ensures.kept c.in-Ok.ensures.told c.in-Ok.ensures.sound found)
          (λ whole. report_of_query c.args.asked node.chain) (λ whole. refl) (λ sound. told.2 sound left)
          (keeps_looked g.D.Disk.content_of g.D.Disk.reads_as g.D.Disk.images g.D.Disk.moment g.D.Disk.left_since g.met.D.Disk.content_rests g.met.D.Disk.counts_now
          c.args.disk.now c.open.new.disk c.find_and_answer-status.new.disk node told.0 c.find_and_answer-status.result c.in-Ok.ensures.kept c.in-Ok.ensures.on c.in-Ok.ensures.moments looked),
    )

pub returns-clause-status : goal.returns-clause-status
returns-clause-status g c = c.find_and_answer-status.ensures.status

pub returns-clause-records : goal.returns-clause-records
returns-clause-records g c = λ now chain told keeps.
    opening_keeps g.D.Disk.images g.D.Disk.moment g.D.Disk.left_since g.met.D.Disk.counts_now c.args.disk.now c.find_and_answer-status.new.disk (λ records. records ≡ []) now chain refl keeps
    (leaves_looked g.D.Disk.content_of g.D.Disk.reads_as g.D.Disk.images g.D.Disk.moment g.D.Disk.left_since g.met.D.Disk.content_rests g.met.D.Disk.counts_now
    c.args.disk.now c.open.new.disk c.find_and_answer-status.new.disk _ (c.in-Ok.ensures.left.keeps now told) c.find_and_answer-status.ensures.disk.content)

pub returns-clause-told : goal.returns-clause-told
returns-clause-told g c =
    tells_looked g.D.Disk.content_of g.D.Disk.reads_as g.D.Disk.images g.D.Disk.moment g.D.Disk.left_since g.met.D.Disk.content_rests
    c.args.disk.now c.open.new.disk c.find_and_answer-status.new.disk c.in-Ok.ensures.told c.find_and_answer-status.ensures.disk.content

pub returns-clause-no_log : goal.returns-clause-no_log
returns-clause-no_log g c = λ now told none. absurd (opened_there (g.D.Disk.reads_as c.args.disk.now) c.in-Ok.node.chain now c.in-Ok.ensures.kept told none)

pub returns-clause-out_faults : goal.returns-clause-out_faults
returns-clause-out_faults g c = c.find_and_answer-status.ensures.faults

pub returns-clause-disk_faults : goal.returns-clause-disk_faults
returns-clause-disk_faults g c = after_still (c.in-Ok.ensures.cause.unchanged (no_answer _ _)) c.find_and_answer-status.ensures.disk.cause

pub returns-clause-rests : goal.returns-clause-rests
returns-clause-rests g c = λ now told other.
    only_read_looked g.D.Disk.content_of g.D.Disk.reads_as g.D.Disk.images g.D.Disk.moment g.D.Disk.left_since g.met.D.Disk.content_rests g.met.D.Disk.counts_now
    c.args.disk.now c.open.new.disk c.find_and_answer-status.new.disk (c.in-Ok.ensures.left.rests now told other) c.find_and_answer-status.ensures.disk.content

pub returns-clause-most : goal.returns-clause-most
returns-clause-most g c = c.in-Ok.ensures.most
