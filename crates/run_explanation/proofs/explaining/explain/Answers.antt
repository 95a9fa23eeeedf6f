use Rattle.std.proofs.Common.{◌≡◌, [], ap, refl}
use Rattle.std.specs.Prelude.{Err}
use Rattle.outside.proofs.Endings.{no_answer, after_still}
use Rattle.outside.proofs.Streams.{gives_none, takes_none}
use Rattle.run_store.proofs.LookLemmas.{tells_looked, leaves_looked, only_read_looked}
use Rattle.run_text.proofs.StoreLemmas.{opened_there}
use Rattle.run_store.proofs.RecordLemmas.{opening_keeps}
use Rattle.run_explanation.proofs.ExplanationLemmas.{explain_opened, explain_unopened}
use Rattle.run_explanation.proofs.explaining.explain.Goals as goal

pub returns-in-Err-clause-explained : goal.returns-in-Err-clause-explained
returns-in-Err-clause-explained g c = (
  [],
  [],
  gives_none (g.S.Source.left c.args.input.now),
  takes_none (g.K.Sink.taken c.args.out.now),
  explain_unopened g.D.Disk.reads_as g.D.Disk.images g.D.Disk.moment g.D.Disk.left_since g.met.D.Disk.counts_now c.args.wanted.asked c.args.disk.now c.open.new.disk
      (g.S.Source.left c.args.input.now) c.in-Err.status (c.in-Err.ensures.one_of c.in-Err.status refl) (λ e. c.in-Err.ensures.not_a_store (ap Err e))
      (g.met.D.Disk.reads_image c.args.disk.now) c.in-Err.ensures.moments,
)

pub returns-clause-explained : goal.returns-clause-explained
returns-clause-explained g c =
    let said = c.read_and_say.ensures.said in
    let left = g.S.Source.left c.read_and_say.new.input in (
      said.0,
      said.1,
      said.2,
      said.3,
      explain_opened g.D.Disk.reads_as g.D.Disk.images g.D.Disk.moment g.D.Disk.left_since g.met.D.Disk.counts_now g.D.Disk.content_of g.met.D.Disk.content_rests
          c.args.wanted.asked c.args.disk.now c.open.new.disk c.read_and_say.new.disk c.in-Ok.node left said.4.0 said.0 said.1 c.read_and_say.result
          c.in-Ok.ensures.kept c.in-Ok.ensures.on c.in-Ok.ensures.moments c.in-Ok.ensures.sound c.in-Ok.ensures.told c.read_and_say.ensures.disk.content said.4.1,
    )

pub returns-clause-disk_faults : goal.returns-clause-disk_faults
returns-clause-disk_faults g c = after_still (c.in-Ok.ensures.cause.unchanged (no_answer _ _)) c.read_and_say.ensures.disk.cause

pub returns-clause-no_log : goal.returns-clause-no_log
returns-clause-no_log g c = λ now told none. absurd (opened_there (g.D.Disk.reads_as c.args.disk.now) c.in-Ok.node.chain now c.in-Ok.ensures.kept told none)

pub returns-in-Err-clause-rests : goal.returns-in-Err-clause-rests
returns-in-Err-clause-rests g c = c.in-Err.ensures.left.rests

pub returns-clause-rests : goal.returns-clause-rests
returns-clause-rests g c = λ now told other.
    only_read_looked g.D.Disk.content_of g.D.Disk.reads_as g.D.Disk.images g.D.Disk.moment g.D.Disk.left_since g.met.D.Disk.content_rests g.met.D.Disk.counts_now
    c.args.disk.now c.open.new.disk c.read_and_say.new.disk (c.in-Ok.ensures.left.rests now told other) c.read_and_say.ensures.disk.content

pub returns-in-Err-clause-told : goal.returns-in-Err-clause-told
returns-in-Err-clause-told g c = c.in-Err.ensures.told

pub returns-clause-told : goal.returns-clause-told
returns-clause-told g c =
    tells_looked g.D.Disk.content_of g.D.Disk.reads_as g.D.Disk.images g.D.Disk.moment g.D.Disk.left_since g.met.D.Disk.content_rests
    c.args.disk.now c.open.new.disk c.read_and_say.new.disk c.in-Ok.ensures.told c.read_and_say.ensures.disk.content

pub returns-in-Err-clause-records : goal.returns-in-Err-clause-records
returns-in-Err-clause-records g c = λ now chain told keeps.
    opening_keeps g.D.Disk.images g.D.Disk.moment g.D.Disk.left_since g.met.D.Disk.counts_now c.args.disk.now c.open.new.disk (λ records. records ≡ []) now chain refl keeps (c.in-Err.ensures.left.keeps now told)

pub returns-clause-records : goal.returns-clause-records
returns-clause-records g c = λ now chain told keeps.
    opening_keeps g.D.Disk.images g.D.Disk.moment g.D.Disk.left_since g.met.D.Disk.counts_now c.args.disk.now c.read_and_say.new.disk (λ records. records ≡ []) now chain refl keeps
    (leaves_looked g.D.Disk.content_of g.D.Disk.reads_as g.D.Disk.images g.D.Disk.moment g.D.Disk.left_since g.met.D.Disk.content_rests g.met.D.Disk.counts_now
    c.args.disk.now c.open.new.disk c.read_and_say.new.disk _ (c.in-Ok.ensures.left.keeps now told) c.read_and_say.ensures.disk.content)
