use Rattle.std.proofs.Common.{inl, inr, ◌++◌, [], drop, refl, ap, sym, subst, ◌∙◌, arith}
use Rattle.std.proofs.lemmas.List.{append-nil}
use Rattle.std.specs.Prelude.{Err, string_bytes, if◌then◌else◌}
use Rattle.outside.proofs.Endings.{counts-as, no_fault, no_answer}
use Rattle.outside.proofs.Streams.{gives_none, takes_none, takes_more}
use Rattle.report_defs.specs.declared.command.Command.TheVariants.{Import}
use Rattle.report_defs.specs.Survival.{AreOfSome}
use Rattle.report_defs.specs.declared.status.Status.{Status}
use Rattle.report_defs.specs.declared.status.Status.TheVariants.{Done, SomeRefused, NoMemory}
use Rattle.report_defs.specs.Items.{split_of}
use Rattle.report_defs.specs.Report.{import_limits, closing_of_end, status_of_end}
use Rattle.node_store.specs.Node.{IsSoundWhereTold, StandsOnDisk}
use Rattle.run_text.specs.Output.{IsWrittenAnswer}
use Rattle.run_text.specs.Output.{text_over}
use Rattle.run_text.proofs.Faults.{then_counts, IsNoFault, end_no_fault, told_no_fault, no_input_there, no_disk_there, IsMemory}
use Rattle.run_import.proofs.ImportLemmas.{items_stop_import}
use Rattle.run_text.proofs.StoreLemmas.{delivers_over, keeps_opened, keeps_unopened, opened_there, unopened, sound_opening, sound_here, by_disk_or_memory, if_told}
use Rattle.run_store.proofs.DiskLemmas.{sound_on, found_sound, only_read_then}
use Rattle.run_import.proofs.ImportReport.{report_on, stopped_import, stopped_at_once, stopped_behind, stopped_acknowledges, stopped_take, ended_import, keeps_given, keeps_all_given}
use Rattle.run_import.proofs.Statuses.{import_opening, import_told}
use Rattle.run_text.proofs.Statuses.{opening_no_input, opening_no_sink}
use Rattle.run_text.proofs.Exits.{same_stop}
use Rattle.disk_defs.specs.Log.{records_of}
use Rattle.disk_defs.specs.Rest.{IsSettled}
use Rattle.run_store.proofs.RecordLemmas.{none_of, opening_keeps}
use Rattle.run_import.proofs.RecordLemmas.{imported_keeps}
use Rattle.run_import.proofs.CountLemmas.{counted_over, opened_over, none_over}
use Rattle.run_import.proofs.importing.import.Goals as goal

pub returns-in-Err-clause-import : goal.returns-in-Err-clause-import
returns-in-Err-clause-import g c = (
  [],
  [],
  gives_none (g.S.Source.left c.args.input.now),
  takes_none (g.K.Sink.taken c.args.out.now),
  let left = g.S.Source.left c.args.input.now in
      let status = c.in-Err.status in
      let one = c.in-Err.ensures.one_of status refl in
      unopened (Import c.args.watched) (g.D.Disk.reads_as c.args.disk.now) (g.D.Disk.images c.args.disk.now) (g.D.Disk.images c.open.new.disk)
      (g.D.Disk.left_since c.open.new.disk (g.D.Disk.moment c.args.disk.now)) left status (λ store found. found) one (λ e. c.in-Err.ensures.not_a_store (ap Err e)) (λ input. refl) (λ input. refl)
      (λ none. none) (λ none. none) (λ chain stop. stopped_at_once c.args.watched chain left status stop)
      (λ now told chain keeps sound. keeps_unopened g.D.Disk.images g.D.Disk.moment g.D.Disk.left_since g.met.D.Disk.counts_now c.args.watched c.args.disk.now c.open.new.disk chain
      (split_of import_limits []).items status
      (by_disk_or_memory status one (sound_opening (g.D.Disk.reads_as c.args.disk.now) status now (λ e. c.in-Err.ensures.not_a_store (ap Err e)) told
      (sound_here (g.D.Disk.reads_as c.args.disk.now) (g.D.Disk.images c.args.disk.now) now (g.met.D.Disk.reads_image c.args.disk.now) told sound)))
      (c.in-Err.ensures.moments now chain told keeps sound)),
)

pub returns-in-Err-import_items-clause-import : goal.returns-in-Err-import_items-clause-import
returns-in-Err-import_items-clause-import g c =
    let came = c.in-Err-import_items.ensures.imported in
    let chain = c.in-Ok.node.chain in
    let status = c.in-Err-import_items.status in
    let reads = g.D.Disk.reads_as c.args.disk.now in (
      came.0,
      came.1,
      came.2,
      came.3,
      delivers_over (IsSoundWhereTold c.in-Ok.node (g.D.Disk.reads_as c.open.new.disk)) (Import c.args.watched) reads chain (g.D.Disk.images c.args.disk.now) (g.D.Disk.images c.import_items.new.disk)
          (g.D.Disk.left_since c.import_items.new.disk (g.D.Disk.moment c.args.disk.now)) (g.S.Source.left c.import_items.new.input) came.0 came.1 status (λ store found. found) c.in-Ok.ensures.kept
          (λ store found. found_sound c.in-Ok.node reads (g.D.Disk.reads_as c.open.new.disk) store c.in-Ok.ensures.kept c.in-Ok.ensures.told c.in-Ok.ensures.sound found)
          (report_on c.args.watched chain) (λ whole. refl)
          (λ sound. let are = came.4 sound in stopped_import c.args.watched chain are.items are.before are.rest came.0 came.1 (g.S.Source.left c.import_items.new.input) status are.are_given are.came)
          (keeps_opened c.args.watched reads chain (split_of import_limits came.0).items (g.D.Disk.images c.args.disk.now) (g.D.Disk.images c.import_items.new.disk)
          (g.D.Disk.left_since c.import_items.new.disk (g.D.Disk.moment c.args.disk.now)) came.1 status c.in-Ok.ensures.kept
          (λ now told keeps sound.
          let on = if_told reads (λ _. StandsOnDisk c.in-Ok.node (g.D.Disk.reads_as c.open.new.disk) (g.D.Disk.images c.open.new.disk)) now (c.in-Ok.ensures.on sound) told in
          let are = came.4 (sound_on c.in-Ok.node (g.D.Disk.reads_as c.open.new.disk) (g.D.Disk.images c.open.new.disk) on) in
          keeps_given g.D.Disk.images g.D.Disk.moment g.D.Disk.left_since g.met.D.Disk.counts_now c.args.watched c.args.disk.now c.open.new.disk c.import_items.new.disk chain
          are.items are.before are.rest came.0 came.1 status are.are_given
          (stopped_acknowledges c.args.watched chain status are.items are.before are.rest came.1 are.came) (stopped_take c.args.watched chain status are.items are.before are.rest came.1 are.came)
          (c.in-Ok.ensures.moments now chain told keeps sound) (are.exit on) (are.moments on))),
    )

pub returns-in-Err-answer_to_end-clause-import : goal.returns-in-Err-answer_to_end-clause-import
returns-in-Err-answer_to_end-clause-import g c =
    let came = c.in-Ok-import_items.ensures.imported in
    let chain = c.in-Ok.node.chain in
    let left = g.S.Source.left c.import_items.new.input in
    let reads = g.D.Disk.reads_as c.args.disk.now in (
      came.0,
      came.1,
      came.2,
      came.3,
      delivers_over (IsSoundWhereTold c.in-Ok.node (g.D.Disk.reads_as c.open.new.disk)) (Import c.args.watched) reads chain (g.D.Disk.images c.args.disk.now) (g.D.Disk.images c.import_items.new.disk)
          (g.D.Disk.left_since c.import_items.new.disk (g.D.Disk.moment c.args.disk.now)) left came.0 came.1 NoMemory (λ store found. found) c.in-Ok.ensures.kept
          (λ store found. found_sound c.in-Ok.node reads (g.D.Disk.reads_as c.open.new.disk) store c.in-Ok.ensures.kept c.in-Ok.ensures.told c.in-Ok.ensures.sound found)
          (report_on c.args.watched chain) (λ whole. refl)
          (λ sound. let are = came.4 sound in stopped_import c.args.watched chain are.items are.items are.rest came.0 came.1 left NoMemory are.are_given
          (stopped_behind c.args.watched chain left c.in-Ok-import_items.ended are.items are.rest came.0 came.1 are.are_given are.came.1 NoMemory tt))
          (keeps_opened c.args.watched reads chain (split_of import_limits came.0).items (g.D.Disk.images c.args.disk.now) (g.D.Disk.images c.import_items.new.disk)
          (g.D.Disk.left_since c.import_items.new.disk (g.D.Disk.moment c.args.disk.now)) came.1 NoMemory c.in-Ok.ensures.kept
          (λ now told keeps sound.
          let on = if_told reads (λ _. StandsOnDisk c.in-Ok.node (g.D.Disk.reads_as c.open.new.disk) (g.D.Disk.images c.open.new.disk)) now (c.in-Ok.ensures.on sound) told in
          let are = came.4 (sound_on c.in-Ok.node (g.D.Disk.reads_as c.open.new.disk) (g.D.Disk.images c.open.new.disk) on) in
          keeps_all_given g.D.Disk.images g.D.Disk.moment g.D.Disk.left_since g.met.D.Disk.counts_now c.args.watched c.args.disk.now c.open.new.disk c.import_items.new.disk chain
          are.items are.before are.rest came.0 came.1 NoMemory are.are_given are.came.0 [] (are.came.1.lines ∙ sym (append-nil (text_over c.args.watched chain are.items)))
          (c.in-Ok.ensures.moments now chain told keeps sound) (are.exit on) (are.moments on))),
    )

pub returns-clause-import : goal.returns-clause-import
returns-clause-import g c =
    let came = c.in-Ok-import_items.ensures.imported in
    let told = c.write_answer.ensures.told in
    let chain = c.in-Ok.node.chain in
    let left = g.S.Source.left c.import_items.new.input in
    let reads = g.D.Disk.reads_as c.args.disk.now in
    let ended = c.in-Ok-import_items.ended in
    let answer = c.in-Ok-answer_to_end.answer in
    let last : IsWrittenAnswer (closing_of_end ended.offset ended.end) (status_of_end (if ended.refused then SomeRefused else Done) ended.end) c.write_answer.result told.0 =
    subst (λ text. IsWrittenAnswer text (status_of_end (if ended.refused then SomeRefused else Done) ended.end) c.write_answer.result told.0) c.in-Ok-answer_to_end.ensures.text
    (subst (λ (s : Status). IsWrittenAnswer (string_bytes answer.text) s c.write_answer.result told.0) c.in-Ok-answer_to_end.ensures.status told.2) in (
      came.0,
      came.1 ++ told.0,
      came.2,
      takes_more (g.K.Sink.taken c.args.out.now) (g.K.Sink.taken c.import_items.new.out) (g.K.Sink.taken c.write_answer.new.out) came.1 told.0 came.3 told.1,
      delivers_over (IsSoundWhereTold c.in-Ok.node (g.D.Disk.reads_as c.open.new.disk)) (Import c.args.watched) reads chain (g.D.Disk.images c.args.disk.now) (g.D.Disk.images c.import_items.new.disk)
          (g.D.Disk.left_since c.import_items.new.disk (g.D.Disk.moment c.args.disk.now)) left came.0 (came.1 ++ told.0) c.write_answer.result (λ store found. found) c.in-Ok.ensures.kept
          (λ store found. found_sound c.in-Ok.node reads (g.D.Disk.reads_as c.open.new.disk) store c.in-Ok.ensures.kept c.in-Ok.ensures.told c.in-Ok.ensures.sound found)
          (report_on c.args.watched chain) (λ whole. refl)
          (λ sound. let are = came.4 sound in ended_import c.args.watched chain left ended are.items are.rest came.0 came.1 are.are_given are.came.1 told.0 c.write_answer.result last)
          (keeps_opened c.args.watched reads chain (split_of import_limits came.0).items (g.D.Disk.images c.args.disk.now) (g.D.Disk.images c.import_items.new.disk)
          (g.D.Disk.left_since c.import_items.new.disk (g.D.Disk.moment c.args.disk.now)) (came.1 ++ told.0) c.write_answer.result c.in-Ok.ensures.kept
          (λ now known keeps sound.
          let on = if_told reads (λ _. StandsOnDisk c.in-Ok.node (g.D.Disk.reads_as c.open.new.disk) (g.D.Disk.images c.open.new.disk)) now (c.in-Ok.ensures.on sound) known in
          let are = came.4 (sound_on c.in-Ok.node (g.D.Disk.reads_as c.open.new.disk) (g.D.Disk.images c.open.new.disk) on) in
          keeps_all_given g.D.Disk.images g.D.Disk.moment g.D.Disk.left_since g.met.D.Disk.counts_now c.args.watched c.args.disk.now c.open.new.disk c.import_items.new.disk chain
          are.items are.before are.rest came.0 (came.1 ++ told.0) c.write_answer.result are.are_given are.came.0 told.0 (ap (λ bs. bs ++ told.0) are.came.1.lines)
          (c.in-Ok.ensures.moments now chain known keeps sound) (are.exit on) (are.moments on))),
    )

pub returns-in-Err-import_items-clause-input_faults : goal.returns-in-Err-import_items-clause-input_faults
returns-in-Err-import_items-clause-input_faults g c = counts-as c.in-Err-import_items.ensures.input_faults (λ e. ap Err e) (same_stop _ _)

pub returns-in-Err-import_items-clause-out_faults : goal.returns-in-Err-import_items-clause-out_faults
returns-in-Err-import_items-clause-out_faults g c = counts-as c.in-Err-import_items.ensures.out_faults (λ e. ap Err e) (same_stop _ _)

pub returns-in-Err-import_items-clause-disk_faults : goal.returns-in-Err-import_items-clause-disk_faults
returns-in-Err-import_items-clause-disk_faults g c =
    then_counts (g.D.Disk.faults c.args.disk.now) (g.D.Disk.faults c.open.new.disk) (g.D.Disk.faults c.import_items.new.disk)
    (c.in-Ok.ensures.cause.unchanged (no_answer _ _)) c.in-Err-import_items.ensures.disk_faults (λ e. ap Err e) (same_stop _ _)

pub returns-in-Err-import_items-clause-status : goal.returns-in-Err-import_items-clause-status
returns-in-Err-import_items-clause-status g c = items_stop_import c.in-Err-import_items.status (c.in-Err-import_items.ensures.status c.in-Err-import_items.status refl)

pub returns-in-Err-import_items-clause-no_log : goal.returns-in-Err-import_items-clause-no_log
returns-in-Err-import_items-clause-no_log g c = λ now told none. absurd (opened_there (g.D.Disk.reads_as c.args.disk.now) c.in-Ok.node.chain now c.in-Ok.ensures.kept told none)

pub returns-in-Err-answer_to_end-clause-no_log : goal.returns-in-Err-answer_to_end-clause-no_log
returns-in-Err-answer_to_end-clause-no_log g c = λ now told none. absurd (opened_there (g.D.Disk.reads_as c.args.disk.now) c.in-Ok.node.chain now c.in-Ok.ensures.kept told none)

pub returns-clause-no_log : goal.returns-clause-no_log
returns-clause-no_log g c = λ now told none. absurd (opened_there (g.D.Disk.reads_as c.args.disk.now) c.in-Ok.node.chain now c.in-Ok.ensures.kept told none)

pub returns-clause-input_faults : goal.returns-clause-input_faults
returns-clause-input_faults g c =
    let own : IsNoFault c.in-Ok-answer_to_end.answer.status =
    subst IsNoFault (sym c.in-Ok-answer_to_end.ensures.status) (end_no_fault c.in-Ok-import_items.ended.refused c.in-Ok-import_items.ended.end) in
    no_fault _ _ (c.in-Ok-import_items.ensures.input_faults.unchanged (no_answer _ _))
    (no_input_there c.write_answer.result
    (told_no_fault (string_bytes c.in-Ok-answer_to_end.answer.text) c.in-Ok-answer_to_end.answer.status c.write_answer.result c.write_answer.ensures.told.0 own c.write_answer.ensures.told.2))

pub returns-clause-disk_faults : goal.returns-clause-disk_faults
returns-clause-disk_faults g c =
    let own : IsNoFault c.in-Ok-answer_to_end.answer.status =
    subst IsNoFault (sym c.in-Ok-answer_to_end.ensures.status) (end_no_fault c.in-Ok-import_items.ended.refused c.in-Ok-import_items.ended.end) in
    no_fault _ _ (c.in-Ok-import_items.ensures.disk_faults.unchanged (no_answer _ _) ∙ c.in-Ok.ensures.cause.unchanged (no_answer _ _))
    (no_disk_there c.write_answer.result
    (told_no_fault (string_bytes c.in-Ok-answer_to_end.answer.text) c.in-Ok-answer_to_end.answer.status c.write_answer.result c.write_answer.ensures.told.0 own c.write_answer.ensures.told.2))

pub returns-in-Err-clause-status : goal.returns-in-Err-clause-status
returns-in-Err-clause-status g c = import_opening c.in-Err.status (c.in-Err.ensures.one_of c.in-Err.status refl)

pub returns-in-Err-clause-no_log : goal.returns-in-Err-clause-no_log
returns-in-Err-clause-no_log g c = c.in-Err.ensures.left.no_log

pub returns-in-Err-clause-input_faults : goal.returns-in-Err-clause-input_faults
returns-in-Err-clause-input_faults g c = no_fault _ _ refl (opening_no_input c.in-Err.status (c.in-Err.ensures.one_of c.in-Err.status refl))

pub returns-in-Err-clause-out_faults : goal.returns-in-Err-clause-out_faults
returns-in-Err-clause-out_faults g c = no_fault _ _ refl (opening_no_sink c.in-Err.status (c.in-Err.ensures.one_of c.in-Err.status refl))

pub returns-in-Err-clause-disk_faults : goal.returns-in-Err-clause-disk_faults
returns-in-Err-clause-disk_faults g c = counts-as c.in-Err.ensures.cause (λ e. ap Err e) (same_stop _ _)

pub returns-in-Err-answer_to_end-clause-status : goal.returns-in-Err-answer_to_end-clause-status
returns-in-Err-answer_to_end-clause-status g c = inr (inr (inr (inr (inr (inl refl)))))

pub returns-in-Err-answer_to_end-clause-input_faults : goal.returns-in-Err-answer_to_end-clause-input_faults
returns-in-Err-answer_to_end-clause-input_faults g c = no_fault _ _ (c.in-Ok-import_items.ensures.input_faults.unchanged (no_answer _ _)) (λ e. subst IsMemory e tt)

pub returns-in-Err-answer_to_end-clause-out_faults : goal.returns-in-Err-answer_to_end-clause-out_faults
returns-in-Err-answer_to_end-clause-out_faults g c = no_fault _ _ (c.in-Ok-import_items.ensures.out_faults.unchanged (no_answer _ _)) (λ e. subst IsMemory e tt)

pub returns-in-Err-answer_to_end-clause-disk_faults : goal.returns-in-Err-answer_to_end-clause-disk_faults
returns-in-Err-answer_to_end-clause-disk_faults g c =
    no_fault _ _ (c.in-Ok-import_items.ensures.disk_faults.unchanged (no_answer _ _) ∙ c.in-Ok.ensures.cause.unchanged (no_answer _ _)) (λ e. subst IsMemory e tt)

pub returns-clause-status : goal.returns-clause-status
returns-clause-status g c =
    import_told (string_bytes c.in-Ok-answer_to_end.answer.text) c.in-Ok-import_items.ended.refused c.in-Ok-import_items.ended.end
    c.in-Ok-answer_to_end.answer.status c.write_answer.result c.write_answer.ensures.told.0 c.in-Ok-answer_to_end.ensures.status c.write_answer.ensures.told.2

pub returns-clause-out_faults : goal.returns-clause-out_faults
returns-clause-out_faults g c =
    then_counts (g.K.Sink.faults c.args.out.now) (g.K.Sink.faults c.import_items.new.out) (g.K.Sink.faults c.write_answer.new.out)
    (c.in-Ok-import_items.ensures.out_faults.unchanged (no_answer _ _)) c.write_answer.ensures.faults (λ e. e) (λ e. e)

pub returns-in-Err-clause-steps : goal.returns-in-Err-clause-steps
returns-in-Err-clause-steps g c = (
  [],
  gives_none (g.S.Source.left c.args.input.now),
  λ now chain told stands. omega (arith, c.in-Err.ensures.most now told),
)

pub returns-in-Err-import_items-clause-steps : goal.returns-in-Err-import_items-clause-steps
returns-in-Err-import_items-clause-steps g c =
    let came = c.import_items.ensures.steps in (
      came.0,
      came.1,
      λ now chain told stands. counted_over (g.D.Disk.reads_as c.args.disk.now) (g.D.Disk.reads_as c.open.new.disk) c.in-Ok.node chain now (split_of import_limits came.0).items _ _ _
          c.in-Ok.ensures.kept c.in-Ok.ensures.told (c.in-Ok.ensures.sound now told) told stands (c.open.ensures.most now told) came.2,
    )

pub returns-in-Err-answer_to_end-clause-steps : goal.returns-in-Err-answer_to_end-clause-steps
returns-in-Err-answer_to_end-clause-steps g c =
    let came = c.import_items.ensures.steps in (
      came.0,
      came.1,
      λ now chain told stands. counted_over (g.D.Disk.reads_as c.args.disk.now) (g.D.Disk.reads_as c.open.new.disk) c.in-Ok.node chain now (split_of import_limits came.0).items _ _ _
          c.in-Ok.ensures.kept c.in-Ok.ensures.told (c.in-Ok.ensures.sound now told) told stands (c.open.ensures.most now told) came.2,
    )

pub returns-clause-steps : goal.returns-clause-steps
returns-clause-steps g c =
    let came = c.import_items.ensures.steps in (
      came.0,
      came.1,
      λ now chain told stands. counted_over (g.D.Disk.reads_as c.args.disk.now) (g.D.Disk.reads_as c.open.new.disk) c.in-Ok.node chain now (split_of import_limits came.0).items _ _ _
          c.in-Ok.ensures.kept c.in-Ok.ensures.told (c.in-Ok.ensures.sound now told) told stands (c.open.ensures.most now told) came.2,
    )

pub returns-in-Err-clause-told : goal.returns-in-Err-clause-told
returns-in-Err-clause-told g c = c.in-Err.ensures.told

pub returns-in-Err-import_items-clause-told : goal.returns-in-Err-import_items-clause-told
returns-in-Err-import_items-clause-told g c = c.in-Err-import_items.ensures.told ∙ c.in-Ok.ensures.told

pub returns-in-Err-answer_to_end-clause-told : goal.returns-in-Err-answer_to_end-clause-told
returns-in-Err-answer_to_end-clause-told g c = c.in-Ok-import_items.ensures.told ∙ c.in-Ok.ensures.told

pub returns-clause-told : goal.returns-clause-told
returns-clause-told g c = c.in-Ok-import_items.ensures.told ∙ c.in-Ok.ensures.told

pub returns-in-Err-clause-still : goal.returns-in-Err-clause-still
returns-in-Err-clause-still g c = ([], gives_none (g.S.Source.left c.args.input.now), λ now chain told stands rests none. c.in-Err.ensures.left.rests now told rests)

pub returns-in-Err-import_items-clause-still : goal.returns-in-Err-import_items-clause-still
returns-in-Err-import_items-clause-still g c =
    let came = c.import_items.ensures.still in (
      came.0,
      came.1,
      λ now chain told stands rests none.
          let over = opened_over (g.D.Disk.reads_as c.args.disk.now) (g.D.Disk.reads_as c.open.new.disk) c.in-Ok.node chain now c.in-Ok.ensures.kept c.in-Ok.ensures.told
          (c.in-Ok.ensures.sound now told) told stands in
          only_read_then g.D.Disk.reads_as g.D.Disk.images g.D.Disk.moment g.D.Disk.left_since c.args.disk.now c.open.new.disk c.import_items.new.disk
          (c.in-Ok.ensures.left.rests now told rests) (g.met.D.Disk.content_rests c.open.new.disk c.import_items.new.disk
          (came.2 over.1 (none_over c.in-Ok.node.chain chain (split_of import_limits came.0).items over.0 none))),
    )

pub returns-in-Err-answer_to_end-clause-still : goal.returns-in-Err-answer_to_end-clause-still
returns-in-Err-answer_to_end-clause-still g c =
    let came = c.import_items.ensures.still in (
      came.0,
      came.1,
      λ now chain told stands rests none.
          let over = opened_over (g.D.Disk.reads_as c.args.disk.now) (g.D.Disk.reads_as c.open.new.disk) c.in-Ok.node chain now c.in-Ok.ensures.kept c.in-Ok.ensures.told
          (c.in-Ok.ensures.sound now told) told stands in
          only_read_then g.D.Disk.reads_as g.D.Disk.images g.D.Disk.moment g.D.Disk.left_since c.args.disk.now c.open.new.disk c.import_items.new.disk
          (c.in-Ok.ensures.left.rests now told rests) (g.met.D.Disk.content_rests c.open.new.disk c.import_items.new.disk
          (came.2 over.1 (none_over c.in-Ok.node.chain chain (split_of import_limits came.0).items over.0 none))),
    )

pub returns-clause-still : goal.returns-clause-still
returns-clause-still g c =
    let came = c.import_items.ensures.still in (
      came.0,
      came.1,
      λ now chain told stands rests none.
          let over = opened_over (g.D.Disk.reads_as c.args.disk.now) (g.D.Disk.reads_as c.open.new.disk) c.in-Ok.node chain now c.in-Ok.ensures.kept c.in-Ok.ensures.told
          (c.in-Ok.ensures.sound now told) told stands in
          only_read_then g.D.Disk.reads_as g.D.Disk.images g.D.Disk.moment g.D.Disk.left_since c.args.disk.now c.open.new.disk c.import_items.new.disk
          (c.in-Ok.ensures.left.rests now told rests) (g.met.D.Disk.content_rests c.open.new.disk c.import_items.new.disk
          (came.2 over.1 (none_over c.in-Ok.node.chain chain (split_of import_limits came.0).items over.0 none))),
    )

pub returns-in-Err-clause-records : goal.returns-in-Err-clause-records
returns-in-Err-clause-records g c = (
  [],
  gives_none (g.S.Source.left c.args.input.now),
  λ now chain told keeps.
      opening_keeps g.D.Disk.images g.D.Disk.moment g.D.Disk.left_since g.met.D.Disk.counts_now c.args.disk.now c.open.new.disk (AreOfSome (split_of import_limits []).items) now chain (none_of (split_of import_limits []).items) keeps
      (c.in-Err.ensures.left.keeps now told),
)

pub returns-in-Err-import_items-clause-records : goal.returns-in-Err-import_items-clause-records
returns-in-Err-import_items-clause-records g c =
    let came = c.import_items.ensures.records in (
      came.0,
      came.1,
      λ now chain told keeps.
          let settled = if_told (g.D.Disk.reads_as c.args.disk.now)
          (λ image. IsSettled c.in-Ok.node.place (records_of (drop 8 image.log)) (g.D.Disk.reads_as c.open.new.disk) (g.D.Disk.images c.open.new.disk)) now c.in-Ok.ensures.settled told in
          imported_keeps g.D.Disk.images g.D.Disk.moment g.D.Disk.left_since g.met.D.Disk.counts_now c.args.disk.now c.open.new.disk c.import_items.new.disk
          (split_of import_limits came.0).items now chain keeps (c.in-Ok.ensures.left.keeps now told) (came.2 (records_of (drop 8 now.log)) settled),
    )

pub returns-in-Err-answer_to_end-clause-records : goal.returns-in-Err-answer_to_end-clause-records
returns-in-Err-answer_to_end-clause-records g c =
    let came = c.import_items.ensures.records in (
      came.0,
      came.1,
      λ now chain told keeps.
          let settled = if_told (g.D.Disk.reads_as c.args.disk.now)
          (λ image. IsSettled c.in-Ok.node.place (records_of (drop 8 image.log)) (g.D.Disk.reads_as c.open.new.disk) (g.D.Disk.images c.open.new.disk)) now c.in-Ok.ensures.settled told in
          imported_keeps g.D.Disk.images g.D.Disk.moment g.D.Disk.left_since g.met.D.Disk.counts_now c.args.disk.now c.open.new.disk c.import_items.new.disk
          (split_of import_limits came.0).items now chain keeps (c.in-Ok.ensures.left.keeps now told) (came.2 (records_of (drop 8 now.log)) settled),
    )

pub returns-clause-records : goal.returns-clause-records
returns-clause-records g c =
    let came = c.import_items.ensures.records in (
      came.0,
      came.1,
      λ now chain told keeps.
          let settled = if_told (g.D.Disk.reads_as c.args.disk.now)
          (λ image. IsSettled c.in-Ok.node.place (records_of (drop 8 image.log)) (g.D.Disk.reads_as c.open.new.disk) (g.D.Disk.images c.open.new.disk)) now c.in-Ok.ensures.settled told in
          imported_keeps g.D.Disk.images g.D.Disk.moment g.D.Disk.left_since g.met.D.Disk.counts_now c.args.disk.now c.open.new.disk c.import_items.new.disk
          (split_of import_limits came.0).items now chain keeps (c.in-Ok.ensures.left.keeps now told) (came.2 (records_of (drop 8 now.log)) settled),
    )
