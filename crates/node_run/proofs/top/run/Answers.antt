use Rattle.std.proofs.Common.{◌≡◌, ◌∙◌, [], inl, refl, ap, subst, sym}
use Rattle.std.specs.Prelude.{Option, Some}
use Rattle.outside.specs.Image.{Image}
use Rattle.verdict_defs.specs.Chain.{Chain}
use Rattle.store_defs.specs.Store.{Keeps, store_of}
use Rattle.run_text.specs.Items.{SourceGave}
use Rattle.outside.proofs.Endings.{no_fault}
use Rattle.outside.proofs.Streams.{gives_none, takes_none}
use Rattle.report_defs.specs.declared.command.Command.{Command}
use Rattle.report_defs.specs.declared.command.Command.TheVariants.{Init, Import, Migrate, Query, Question, Standalone, Simulation}
use Rattle.report_defs.specs.declared.status.Status.TheVariants.{BadWords}
use Rattle.report_defs.specs.Status.{IsOneOf}
use Rattle.report_defs.specs.Promise.{statuses_of}
use Rattle.report_defs.specs.Survival.{IsPromised, CallsNoDisk, OpensStore, AsksStore, Imports, Migrates, KeepsRecords, MayAdd, as_before}
use Rattle.node_run.proofs.Asked.{IsNotInit, never_bad_words, words_are_good, query_no_input_fault, migrate_no_input_fault, standalone_no_disk_fault, simulation_no_input_fault, simulation_no_disk_fault}
use Rattle.node_run.proofs.RunLemmas.{import_promised, migrate_promised, query_promised, question_promised, init_promised, standalone_promised, simulation_promised, words_promised}
use Rattle.node_run.proofs.top.run.Goals as goal

pub returns-in-Some-Init-clause-run : goal.returns-in-Some-Init-clause-run
returns-in-Some-Init-clause-run g c =
    let is = ap Some (sym c.in-Some-Init.field-0-is) ∙ c.in-Some-Init.ensures.command in
    let kept = c.init.ensures.init in (
      kept.0,
      kept.1,
      kept.2,
      kept.3,
      subst (λ (o : Option Command). IsPromised o (g.D.Disk.reads_as c.args.disk.now) (g.D.Disk.images c.args.disk.now) (g.D.Disk.images c.init.new.disk)
          (g.D.Disk.left_since c.init.new.disk (g.D.Disk.moment c.args.disk.now)) (g.S.Source.left c.init.new.input) kept.0 kept.1 c.init.result) is
          (init_promised g.D.Disk.reads_as g.D.Disk.images g.D.Disk.moment g.D.Disk.left_since g.met.D.Disk.reads_image g.met.D.Disk.only_now c.args.disk.now c.init.new.disk
          (g.S.Source.left c.init.new.input) kept.0 kept.1 c.init.result kept.4 c.init.ensures.there),
    )

pub returns-in-Some-Init-clause-words : goal.returns-in-Some-Init-clause-words
returns-in-Some-Init-clause-words g c =
    let is = ap Some (sym c.in-Some-Init.field-0-is) ∙ c.in-Some-Init.ensures.command in
    words_are_good _ Init c.init.result is c.init.ensures.status

pub returns-in-Some-Init-clause-silent : goal.returns-in-Some-Init-clause-silent
returns-in-Some-Init-clause-silent g c = λ bad. absurd (never_bad_words Init c.init.result c.init.ensures.status bad)

pub returns-in-Some-Init-clause-status : goal.returns-in-Some-Init-clause-status
returns-in-Some-Init-clause-status g c =
    let is = ap Some (sym c.in-Some-Init.field-0-is) ∙ c.in-Some-Init.ensures.command in
    subst (λ (o : Option Command). IsOneOf (statuses_of o) c.init.result) is c.init.ensures.status

pub returns-in-Some-Init-clause-input_faults : goal.returns-in-Some-Init-clause-input_faults
returns-in-Some-Init-clause-input_faults g c = c.init.ensures.input_faults

pub returns-in-Some-Init-clause-out_faults : goal.returns-in-Some-Init-clause-out_faults
returns-in-Some-Init-clause-out_faults g c = c.init.ensures.out_faults

pub returns-in-Some-Init-clause-disk_faults : goal.returns-in-Some-Init-clause-disk_faults
returns-in-Some-Init-clause-disk_faults g c = c.init.ensures.disk_faults

pub returns-in-Some-Init-clause-uncalled : goal.returns-in-Some-Init-clause-uncalled
returns-in-Some-Init-clause-uncalled g c =
    let is = ap Some (sym c.in-Some-Init.field-0-is) ∙ c.in-Some-Init.ensures.command in
    λ uncalled. absurd (subst CallsNoDisk (sym is) uncalled)

pub returns-in-Some-Init-clause-as_before : goal.returns-in-Some-Init-clause-as_before
returns-in-Some-Init-clause-as_before g c =
    let is = ap Some (sym c.in-Some-Init.field-0-is) ∙ c.in-Some-Init.ensures.command in
    λ told. c.init.ensures.as_before (subst (λ (o : Option Command). IsOneOf (as_before o) c.init.result) (sym is) told)

pub returns-in-Some-Init-clause-log_there : goal.returns-in-Some-Init-clause-log_there
returns-in-Some-Init-clause-log_there g c = λ now told other _. c.init.ensures.there now told other

pub returns-in-Some-Init-clause-loses_nothing : goal.returns-in-Some-Init-clause-loses_nothing
returns-in-Some-Init-clause-loses_nothing g c =
    let is = ap Some (sym c.in-Some-Init.field-0-is) ∙ c.in-Some-Init.ensures.command in
    λ now told none opens. absurd (subst OpensStore (sym is) opens)

pub returns-in-Some-Init-clause-steps : goal.returns-in-Some-Init-clause-steps
returns-in-Some-Init-clause-steps g c = λ _. refl

pub returns-in-Some-Import-clause-run : goal.returns-in-Some-Import-clause-run
returns-in-Some-Import-clause-run g c =
    let is = ap Some (sym c.in-Some-Import.field-0-is) ∙ c.in-Some-Import.ensures.command in
    let kept = c.import.ensures.import in (
      kept.0,
      kept.1,
      kept.2,
      kept.3,
      subst (λ (o : Option Command). IsPromised o (g.D.Disk.reads_as c.args.disk.now) (g.D.Disk.images c.args.disk.now) (g.D.Disk.images c.import.new.disk)
          (g.D.Disk.left_since c.import.new.disk (g.D.Disk.moment c.args.disk.now)) (g.S.Source.left c.import.new.input) kept.0 kept.1 c.import.result) is
          (import_promised c.in-Some-Import.watched (g.D.Disk.reads_as c.args.disk.now) (g.D.Disk.images c.args.disk.now) (g.D.Disk.images c.import.new.disk)
          (g.D.Disk.left_since c.import.new.disk (g.D.Disk.moment c.args.disk.now)) (g.S.Source.left c.import.new.input) kept.0 kept.1 c.import.result
          (g.met.D.Disk.reads_image c.args.disk.now) kept.4),
    )

pub returns-in-Some-Import-clause-words : goal.returns-in-Some-Import-clause-words
returns-in-Some-Import-clause-words g c =
    let is = ap Some (sym c.in-Some-Import.field-0-is) ∙ c.in-Some-Import.ensures.command in
    words_are_good _ (Import c.in-Some-Import.watched) c.import.result is c.import.ensures.status

pub returns-in-Some-Import-clause-silent : goal.returns-in-Some-Import-clause-silent
returns-in-Some-Import-clause-silent g c = λ bad. absurd (never_bad_words (Import c.in-Some-Import.watched) c.import.result c.import.ensures.status bad)

pub returns-in-Some-Import-clause-status : goal.returns-in-Some-Import-clause-status
returns-in-Some-Import-clause-status g c =
    let is = ap Some (sym c.in-Some-Import.field-0-is) ∙ c.in-Some-Import.ensures.command in
    subst (λ (o : Option Command). IsOneOf (statuses_of o) c.import.result) is c.import.ensures.status

pub returns-in-Some-Import-clause-input_faults : goal.returns-in-Some-Import-clause-input_faults
returns-in-Some-Import-clause-input_faults g c = c.import.ensures.input_faults

pub returns-in-Some-Import-clause-out_faults : goal.returns-in-Some-Import-clause-out_faults
returns-in-Some-Import-clause-out_faults g c = c.import.ensures.out_faults

pub returns-in-Some-Import-clause-disk_faults : goal.returns-in-Some-Import-clause-disk_faults
returns-in-Some-Import-clause-disk_faults g c = c.import.ensures.disk_faults

pub returns-in-Some-Import-clause-uncalled : goal.returns-in-Some-Import-clause-uncalled
returns-in-Some-Import-clause-uncalled g c =
    let is = ap Some (sym c.in-Some-Import.field-0-is) ∙ c.in-Some-Import.ensures.command in
    λ uncalled. absurd (subst CallsNoDisk (sym is) uncalled)

pub returns-in-Some-Import-clause-as_before : goal.returns-in-Some-Import-clause-as_before
returns-in-Some-Import-clause-as_before g c =
    let is = ap Some (sym c.in-Some-Import.field-0-is) ∙ c.in-Some-Import.ensures.command in
    λ told. absurd (subst (λ (o : Option Command). IsOneOf (as_before o) c.import.result) (sym is) told)

pub returns-in-Some-Import-clause-log_there : goal.returns-in-Some-Import-clause-log_there
returns-in-Some-Import-clause-log_there g c =
    let is = ap Some (sym c.in-Some-Import.field-0-is) ∙ c.in-Some-Import.ensures.command in
    λ now told other init. absurd (subst IsNotInit (is ∙ init) tt)

pub returns-in-Some-Import-clause-loses_nothing : goal.returns-in-Some-Import-clause-loses_nothing
returns-in-Some-Import-clause-loses_nothing g c = λ now told none opens. c.import.ensures.no_log now told none

pub returns-in-Some-Import-clause-steps : goal.returns-in-Some-Import-clause-steps
returns-in-Some-Import-clause-steps g c =
    let is = ap Some (sym c.in-Some-Import.field-0-is) ∙ c.in-Some-Import.ensures.command in
    λ never. absurd (never (subst OpensStore is tt))

pub returns-in-Some-Query-clause-run : goal.returns-in-Some-Query-clause-run
returns-in-Some-Query-clause-run g c =
    let is = ap Some (sym c.in-Some-Query.field-0-is) ∙ c.in-Some-Query.ensures.command in
    let told = c.query.ensures.query in (
      [],
      told.0,
      gives_none (g.S.Source.left c.args.input.now),
      told.1,
      subst (λ (o : Option Command). IsPromised o (g.D.Disk.reads_as c.args.disk.now) (g.D.Disk.images c.args.disk.now) (g.D.Disk.images c.query.new.disk)
          (g.D.Disk.left_since c.query.new.disk (g.D.Disk.moment c.args.disk.now)) (g.S.Source.left c.args.input.now) [] told.0 c.query.result) is
          (query_promised c.in-Some-Query.asked (g.D.Disk.reads_as c.args.disk.now) (g.D.Disk.images c.args.disk.now) (g.D.Disk.images c.query.new.disk)
          (g.D.Disk.left_since c.query.new.disk (g.D.Disk.moment c.args.disk.now)) (g.S.Source.left c.args.input.now) told.0 c.query.result
          (g.met.D.Disk.reads_image c.args.disk.now) told.2),
    )

pub returns-in-Some-Query-clause-words : goal.returns-in-Some-Query-clause-words
returns-in-Some-Query-clause-words g c =
    let is = ap Some (sym c.in-Some-Query.field-0-is) ∙ c.in-Some-Query.ensures.command in
    words_are_good _ (Query c.in-Some-Query.asked) c.query.result is c.query.ensures.status

pub returns-in-Some-Query-clause-silent : goal.returns-in-Some-Query-clause-silent
returns-in-Some-Query-clause-silent g c = λ bad. absurd (never_bad_words (Query c.in-Some-Query.asked) c.query.result c.query.ensures.status bad)

pub returns-in-Some-Query-clause-status : goal.returns-in-Some-Query-clause-status
returns-in-Some-Query-clause-status g c =
    let is = ap Some (sym c.in-Some-Query.field-0-is) ∙ c.in-Some-Query.ensures.command in
    subst (λ (o : Option Command). IsOneOf (statuses_of o) c.query.result) is c.query.ensures.status

pub returns-in-Some-Query-clause-input_faults : goal.returns-in-Some-Query-clause-input_faults
returns-in-Some-Query-clause-input_faults g c = no_fault _ _ refl (query_no_input_fault c.query.result c.query.ensures.status)

pub returns-in-Some-Query-clause-out_faults : goal.returns-in-Some-Query-clause-out_faults
returns-in-Some-Query-clause-out_faults g c = c.query.ensures.out_faults

pub returns-in-Some-Query-clause-disk_faults : goal.returns-in-Some-Query-clause-disk_faults
returns-in-Some-Query-clause-disk_faults g c = c.query.ensures.disk_faults

pub returns-in-Some-Query-clause-uncalled : goal.returns-in-Some-Query-clause-uncalled
returns-in-Some-Query-clause-uncalled g c =
    let is = ap Some (sym c.in-Some-Query.field-0-is) ∙ c.in-Some-Query.ensures.command in
    λ uncalled. absurd (subst CallsNoDisk (sym is) uncalled)

pub returns-in-Some-Query-clause-as_before : goal.returns-in-Some-Query-clause-as_before
returns-in-Some-Query-clause-as_before g c =
    let is = ap Some (sym c.in-Some-Query.field-0-is) ∙ c.in-Some-Query.ensures.command in
    λ told. absurd (subst (λ (o : Option Command). IsOneOf (as_before o) c.query.result) (sym is) told)

pub returns-in-Some-Query-clause-log_there : goal.returns-in-Some-Query-clause-log_there
returns-in-Some-Query-clause-log_there g c =
    let is = ap Some (sym c.in-Some-Query.field-0-is) ∙ c.in-Some-Query.ensures.command in
    λ now told other init. absurd (subst IsNotInit (is ∙ init) tt)

pub returns-in-Some-Query-clause-loses_nothing : goal.returns-in-Some-Query-clause-loses_nothing
returns-in-Some-Query-clause-loses_nothing g c = λ now told none opens. c.query.ensures.no_log now told none

pub returns-in-Some-Query-clause-steps : goal.returns-in-Some-Query-clause-steps
returns-in-Some-Query-clause-steps g c =
    let is = ap Some (sym c.in-Some-Query.field-0-is) ∙ c.in-Some-Query.ensures.command in
    λ never. absurd (never (subst OpensStore is tt))

pub returns-in-Some-Question-clause-run : goal.returns-in-Some-Question-clause-run
returns-in-Some-Question-clause-run g c =
    let is = ap Some (sym c.in-Some-Question.field-0-is) ∙ c.in-Some-Question.ensures.command in
    let kept = c.question.ensures.question in (
      kept.0,
      kept.1,
      kept.2,
      kept.3,
      subst (λ (o : Option Command). IsPromised o (g.D.Disk.reads_as c.args.disk.now) (g.D.Disk.images c.args.disk.now) (g.D.Disk.images c.question.new.disk)
          (g.D.Disk.left_since c.question.new.disk (g.D.Disk.moment c.args.disk.now)) (g.S.Source.left c.question.new.input) kept.0 kept.1 c.question.result) is
          (question_promised c.in-Some-Question.asked (g.D.Disk.reads_as c.args.disk.now) (g.D.Disk.images c.args.disk.now) (g.D.Disk.images c.question.new.disk)
          (g.D.Disk.left_since c.question.new.disk (g.D.Disk.moment c.args.disk.now)) (g.S.Source.left c.question.new.input) kept.0 kept.1 c.question.result
          (g.met.D.Disk.reads_image c.args.disk.now) kept.4),
    )

pub returns-in-Some-Question-clause-words : goal.returns-in-Some-Question-clause-words
returns-in-Some-Question-clause-words g c =
    let is = ap Some (sym c.in-Some-Question.field-0-is) ∙ c.in-Some-Question.ensures.command in
    words_are_good _ (Question c.in-Some-Question.asked) c.question.result is c.question.ensures.status

pub returns-in-Some-Question-clause-silent : goal.returns-in-Some-Question-clause-silent
returns-in-Some-Question-clause-silent g c = λ bad. absurd (never_bad_words (Question c.in-Some-Question.asked) c.question.result c.question.ensures.status bad)

pub returns-in-Some-Question-clause-status : goal.returns-in-Some-Question-clause-status
returns-in-Some-Question-clause-status g c =
    let is = ap Some (sym c.in-Some-Question.field-0-is) ∙ c.in-Some-Question.ensures.command in
    subst (λ (o : Option Command). IsOneOf (statuses_of o) c.question.result) is c.question.ensures.status

pub returns-in-Some-Question-clause-input_faults : goal.returns-in-Some-Question-clause-input_faults
returns-in-Some-Question-clause-input_faults g c = c.question.ensures.input_faults

pub returns-in-Some-Question-clause-out_faults : goal.returns-in-Some-Question-clause-out_faults
returns-in-Some-Question-clause-out_faults g c = c.question.ensures.out_faults

pub returns-in-Some-Question-clause-disk_faults : goal.returns-in-Some-Question-clause-disk_faults
returns-in-Some-Question-clause-disk_faults g c = c.question.ensures.disk_faults

pub returns-in-Some-Question-clause-uncalled : goal.returns-in-Some-Question-clause-uncalled
returns-in-Some-Question-clause-uncalled g c =
    let is = ap Some (sym c.in-Some-Question.field-0-is) ∙ c.in-Some-Question.ensures.command in
    λ uncalled. absurd (subst CallsNoDisk (sym is) uncalled)

pub returns-in-Some-Question-clause-as_before : goal.returns-in-Some-Question-clause-as_before
returns-in-Some-Question-clause-as_before g c =
    let is = ap Some (sym c.in-Some-Question.field-0-is) ∙ c.in-Some-Question.ensures.command in
    λ told. absurd (subst (λ (o : Option Command). IsOneOf (as_before o) c.question.result) (sym is) told)

pub returns-in-Some-Question-clause-log_there : goal.returns-in-Some-Question-clause-log_there
returns-in-Some-Question-clause-log_there g c =
    let is = ap Some (sym c.in-Some-Question.field-0-is) ∙ c.in-Some-Question.ensures.command in
    λ now told other init. absurd (subst IsNotInit (is ∙ init) tt)

pub returns-in-Some-Question-clause-loses_nothing : goal.returns-in-Some-Question-clause-loses_nothing
returns-in-Some-Question-clause-loses_nothing g c = λ now told none opens. c.question.ensures.no_log now told none

pub returns-in-Some-Question-clause-steps : goal.returns-in-Some-Question-clause-steps
returns-in-Some-Question-clause-steps g c =
    let is = ap Some (sym c.in-Some-Question.field-0-is) ∙ c.in-Some-Question.ensures.command in
    λ never. absurd (never (subst OpensStore is tt))

pub returns-in-Some-Standalone-clause-run : goal.returns-in-Some-Standalone-clause-run
returns-in-Some-Standalone-clause-run g c =
    let is = ap Some (sym c.in-Some-Standalone.field-0-is) ∙ c.in-Some-Standalone.ensures.command in
    let text = c.standalone.ensures.text in (
      text.0,
      text.1,
      text.2,
      text.3,
      subst (λ (o : Option Command). IsPromised o (g.D.Disk.reads_as c.args.disk.now) (g.D.Disk.images c.args.disk.now) (g.D.Disk.images c.args.disk.now)
          (g.D.Disk.left_since c.args.disk.now (g.D.Disk.moment c.args.disk.now)) (g.S.Source.left c.standalone.new.input) text.0 text.1 c.standalone.result) is
          (standalone_promised g.D.Disk.reads_as g.D.Disk.images g.D.Disk.moment g.D.Disk.left_since g.met.D.Disk.reads_image g.met.D.Disk.only_now c.in-Some-Standalone.command c.args.disk.now
          (g.S.Source.left c.standalone.new.input) text.0 text.1 c.standalone.result text.4),
    )

pub returns-in-Some-Standalone-clause-words : goal.returns-in-Some-Standalone-clause-words
returns-in-Some-Standalone-clause-words g c =
    let is = ap Some (sym c.in-Some-Standalone.field-0-is) ∙ c.in-Some-Standalone.ensures.command in
    words_are_good _ (Standalone c.in-Some-Standalone.command) c.standalone.result is c.standalone.ensures.status

pub returns-in-Some-Standalone-clause-silent : goal.returns-in-Some-Standalone-clause-silent
returns-in-Some-Standalone-clause-silent g c = λ bad. absurd (never_bad_words (Standalone c.in-Some-Standalone.command) c.standalone.result c.standalone.ensures.status bad)

pub returns-in-Some-Standalone-clause-status : goal.returns-in-Some-Standalone-clause-status
returns-in-Some-Standalone-clause-status g c =
    let is = ap Some (sym c.in-Some-Standalone.field-0-is) ∙ c.in-Some-Standalone.ensures.command in
    subst (λ (o : Option Command). IsOneOf (statuses_of o) c.standalone.result) is c.standalone.ensures.status

pub returns-in-Some-Standalone-clause-input_faults : goal.returns-in-Some-Standalone-clause-input_faults
returns-in-Some-Standalone-clause-input_faults g c = c.standalone.ensures.input_faults

pub returns-in-Some-Standalone-clause-out_faults : goal.returns-in-Some-Standalone-clause-out_faults
returns-in-Some-Standalone-clause-out_faults g c = c.standalone.ensures.out_faults

pub returns-in-Some-Standalone-clause-disk_faults : goal.returns-in-Some-Standalone-clause-disk_faults
returns-in-Some-Standalone-clause-disk_faults g c = no_fault _ _ refl (standalone_no_disk_fault c.in-Some-Standalone.command c.standalone.result c.standalone.ensures.status)

pub returns-in-Some-Standalone-clause-uncalled : goal.returns-in-Some-Standalone-clause-uncalled
returns-in-Some-Standalone-clause-uncalled g c = λ _. refl

pub returns-in-Some-Standalone-clause-as_before : goal.returns-in-Some-Standalone-clause-as_before
returns-in-Some-Standalone-clause-as_before g c =
    let is = ap Some (sym c.in-Some-Standalone.field-0-is) ∙ c.in-Some-Standalone.ensures.command in
    λ told. absurd (subst (λ (o : Option Command). IsOneOf (as_before o) c.standalone.result) (sym is) told)

pub returns-in-Some-Standalone-clause-log_there : goal.returns-in-Some-Standalone-clause-log_there
returns-in-Some-Standalone-clause-log_there g c =
    let is = ap Some (sym c.in-Some-Standalone.field-0-is) ∙ c.in-Some-Standalone.ensures.command in
    λ now told other init. absurd (subst IsNotInit (is ∙ init) tt)

pub returns-in-Some-Standalone-clause-loses_nothing : goal.returns-in-Some-Standalone-clause-loses_nothing
returns-in-Some-Standalone-clause-loses_nothing g c =
    let is = ap Some (sym c.in-Some-Standalone.field-0-is) ∙ c.in-Some-Standalone.ensures.command in
    λ now told none opens. absurd (subst OpensStore (sym is) opens)

pub returns-in-Some-Standalone-clause-steps : goal.returns-in-Some-Standalone-clause-steps
returns-in-Some-Standalone-clause-steps g c = λ _. refl

pub returns-in-Some-Simulation-clause-run : goal.returns-in-Some-Simulation-clause-run
returns-in-Some-Simulation-clause-run g c =
    let is = ap Some (sym c.in-Some-Simulation.field-0-is) ∙ c.in-Some-Simulation.ensures.command in
    let text = c.simulate.ensures.text in (
      [],
      text.0,
      gives_none (g.S.Source.left c.args.input.now),
      text.1,
      subst (λ (o : Option Command). IsPromised o (g.D.Disk.reads_as c.args.disk.now) (g.D.Disk.images c.args.disk.now) (g.D.Disk.images c.args.disk.now)
          (g.D.Disk.left_since c.args.disk.now (g.D.Disk.moment c.args.disk.now)) (g.S.Source.left c.args.input.now) [] text.0 c.simulate.result) is
          (simulation_promised g.D.Disk.reads_as g.D.Disk.images g.D.Disk.moment g.D.Disk.left_since g.met.D.Disk.reads_image g.met.D.Disk.only_now c.in-Some-Simulation.simulation c.args.disk.now
          (g.S.Source.left c.args.input.now) text.0 c.simulate.result (text.2 (g.S.Source.left c.args.input.now))),
    )

pub returns-in-Some-Simulation-clause-words : goal.returns-in-Some-Simulation-clause-words
returns-in-Some-Simulation-clause-words g c =
    let is = ap Some (sym c.in-Some-Simulation.field-0-is) ∙ c.in-Some-Simulation.ensures.command in
    words_are_good _ (Simulation c.in-Some-Simulation.simulation) c.simulate.result is c.simulate.ensures.status

pub returns-in-Some-Simulation-clause-silent : goal.returns-in-Some-Simulation-clause-silent
returns-in-Some-Simulation-clause-silent g c = λ bad. absurd (never_bad_words (Simulation c.in-Some-Simulation.simulation) c.simulate.result c.simulate.ensures.status bad)

pub returns-in-Some-Simulation-clause-status : goal.returns-in-Some-Simulation-clause-status
returns-in-Some-Simulation-clause-status g c =
    let is = ap Some (sym c.in-Some-Simulation.field-0-is) ∙ c.in-Some-Simulation.ensures.command in
    subst (λ (o : Option Command). IsOneOf (statuses_of o) c.simulate.result) is c.simulate.ensures.status

pub returns-in-Some-Simulation-clause-input_faults : goal.returns-in-Some-Simulation-clause-input_faults
returns-in-Some-Simulation-clause-input_faults g c = no_fault _ _ refl (simulation_no_input_fault c.simulate.result c.simulate.ensures.status)

pub returns-in-Some-Simulation-clause-out_faults : goal.returns-in-Some-Simulation-clause-out_faults
returns-in-Some-Simulation-clause-out_faults g c = c.simulate.ensures.faults

pub returns-in-Some-Simulation-clause-disk_faults : goal.returns-in-Some-Simulation-clause-disk_faults
returns-in-Some-Simulation-clause-disk_faults g c = no_fault _ _ refl (simulation_no_disk_fault c.simulate.result c.simulate.ensures.status)

pub returns-in-Some-Simulation-clause-uncalled : goal.returns-in-Some-Simulation-clause-uncalled
returns-in-Some-Simulation-clause-uncalled g c = λ _. refl

pub returns-in-Some-Simulation-clause-as_before : goal.returns-in-Some-Simulation-clause-as_before
returns-in-Some-Simulation-clause-as_before g c =
    let is = ap Some (sym c.in-Some-Simulation.field-0-is) ∙ c.in-Some-Simulation.ensures.command in
    λ told. absurd (subst (λ (o : Option Command). IsOneOf (as_before o) c.simulate.result) (sym is) told)

pub returns-in-Some-Simulation-clause-log_there : goal.returns-in-Some-Simulation-clause-log_there
returns-in-Some-Simulation-clause-log_there g c =
    let is = ap Some (sym c.in-Some-Simulation.field-0-is) ∙ c.in-Some-Simulation.ensures.command in
    λ now told other init. absurd (subst IsNotInit (is ∙ init) tt)

pub returns-in-Some-Simulation-clause-loses_nothing : goal.returns-in-Some-Simulation-clause-loses_nothing
returns-in-Some-Simulation-clause-loses_nothing g c =
    let is = ap Some (sym c.in-Some-Simulation.field-0-is) ∙ c.in-Some-Simulation.ensures.command in
    λ now told none opens. absurd (subst OpensStore (sym is) opens)

pub returns-in-Some-Simulation-clause-steps : goal.returns-in-Some-Simulation-clause-steps
returns-in-Some-Simulation-clause-steps g c = λ _. refl

pub returns-in-None-clause-run : goal.returns-in-None-clause-run
returns-in-None-clause-run g c = (
  [],
  [],
  gives_none (g.S.Source.left c.args.input.now),
  takes_none (g.K.Sink.taken c.args.out.now),
  subst (λ (o : Option Command). IsPromised o (g.D.Disk.reads_as c.args.disk.now) (g.D.Disk.images c.args.disk.now) (g.D.Disk.images c.args.disk.now)
      (g.D.Disk.left_since c.args.disk.now (g.D.Disk.moment c.args.disk.now)) (g.S.Source.left c.args.input.now) [] [] BadWords) c.in-None.ensures.command
      (words_promised g.D.Disk.reads_as g.D.Disk.images g.D.Disk.moment g.D.Disk.left_since g.met.D.Disk.reads_image g.met.D.Disk.only_now c.args.disk.now
      (g.S.Source.left c.args.input.now)),
)

pub returns-in-None-clause-words : goal.returns-in-None-clause-words
returns-in-None-clause-words g c = (λ _. sym c.in-None.ensures.command, λ _. refl)

pub returns-in-None-clause-silent : goal.returns-in-None-clause-silent
returns-in-None-clause-silent g c = λ _. (refl, refl)

pub returns-in-None-clause-status : goal.returns-in-None-clause-status
returns-in-None-clause-status g c = subst (λ (o : Option Command). IsOneOf (statuses_of o) BadWords) c.in-None.ensures.command (inl refl)

pub returns-in-None-clause-input_faults : goal.returns-in-None-clause-input_faults
returns-in-None-clause-input_faults g c = no_fault _ _ refl (λ e. cc)

pub returns-in-None-clause-out_faults : goal.returns-in-None-clause-out_faults
returns-in-None-clause-out_faults g c = no_fault _ _ refl (λ e. cc)

pub returns-in-None-clause-disk_faults : goal.returns-in-None-clause-disk_faults
returns-in-None-clause-disk_faults g c = no_fault _ _ refl (λ e. cc)

pub returns-in-None-clause-uncalled : goal.returns-in-None-clause-uncalled
returns-in-None-clause-uncalled g c = λ _. refl

pub returns-in-None-clause-as_before : goal.returns-in-None-clause-as_before
returns-in-None-clause-as_before g c = λ told. absurd (subst (λ (o : Option Command). IsOneOf (as_before o) BadWords) (sym c.in-None.ensures.command) told)

pub returns-in-None-clause-log_there : goal.returns-in-None-clause-log_there
returns-in-None-clause-log_there g c = λ now told other init. absurd (subst IsNotInit (c.in-None.ensures.command ∙ init) tt)

pub returns-in-None-clause-loses_nothing : goal.returns-in-None-clause-loses_nothing
returns-in-None-clause-loses_nothing g c = λ now told none opens. absurd (subst OpensStore (sym c.in-None.ensures.command) opens)

pub returns-in-None-clause-steps : goal.returns-in-None-clause-steps
returns-in-None-clause-steps g c = λ _. refl

pub returns-in-Some-Init-clause-rests : goal.returns-in-Some-Init-clause-rests
returns-in-Some-Init-clause-rests g c =
    let is = ap Some (sym c.in-Some-Init.field-0-is) ∙ c.in-Some-Init.ensures.command in
    λ now told closed query. absurd (subst AsksStore (sym is) query)

pub returns-in-Some-Init-clause-query_steps : goal.returns-in-Some-Init-clause-query_steps
returns-in-Some-Init-clause-query_steps g c =
    let is = ap Some (sym c.in-Some-Init.field-0-is) ∙ c.in-Some-Init.ensures.command in
    λ now told query. absurd (subst AsksStore (sym is) query)

pub returns-in-Some-Import-clause-rests : goal.returns-in-Some-Import-clause-rests
returns-in-Some-Import-clause-rests g c =
    let is = ap Some (sym c.in-Some-Import.field-0-is) ∙ c.in-Some-Import.ensures.command in
    λ now told closed query. absurd (subst AsksStore (sym is) query)

pub returns-in-Some-Import-clause-query_steps : goal.returns-in-Some-Import-clause-query_steps
returns-in-Some-Import-clause-query_steps g c =
    let is = ap Some (sym c.in-Some-Import.field-0-is) ∙ c.in-Some-Import.ensures.command in
    λ now told query. absurd (subst AsksStore (sym is) query)

pub returns-in-Some-Standalone-clause-rests : goal.returns-in-Some-Standalone-clause-rests
returns-in-Some-Standalone-clause-rests g c =
    let is = ap Some (sym c.in-Some-Standalone.field-0-is) ∙ c.in-Some-Standalone.ensures.command in
    λ now told closed query. absurd (subst AsksStore (sym is) query)

pub returns-in-Some-Standalone-clause-query_steps : goal.returns-in-Some-Standalone-clause-query_steps
returns-in-Some-Standalone-clause-query_steps g c =
    let is = ap Some (sym c.in-Some-Standalone.field-0-is) ∙ c.in-Some-Standalone.ensures.command in
    λ now told query. absurd (subst AsksStore (sym is) query)

pub returns-in-Some-Query-clause-rests : goal.returns-in-Some-Query-clause-rests
returns-in-Some-Query-clause-rests g c = λ now told closed _. c.query.ensures.rests now told closed

pub returns-in-Some-Query-clause-query_steps : goal.returns-in-Some-Query-clause-query_steps
returns-in-Some-Query-clause-query_steps g c = λ now told _. c.query.ensures.most now told

pub returns-in-Some-Question-clause-rests : goal.returns-in-Some-Question-clause-rests
returns-in-Some-Question-clause-rests g c = λ now told closed _. c.question.ensures.rests now told closed

pub returns-in-Some-Question-clause-query_steps : goal.returns-in-Some-Question-clause-query_steps
returns-in-Some-Question-clause-query_steps g c = λ now told _. c.question.ensures.most now told

pub returns-in-None-clause-rests : goal.returns-in-None-clause-rests
returns-in-None-clause-rests g c = λ now told closed query. absurd (subst AsksStore (sym c.in-None.ensures.command) query)

pub returns-in-None-clause-query_steps : goal.returns-in-None-clause-query_steps
returns-in-None-clause-query_steps g c = λ now told query. absurd (subst AsksStore (sym c.in-None.ensures.command) query)

pub returns-in-Some-Init-clause-import_steps : goal.returns-in-Some-Init-clause-import_steps
returns-in-Some-Init-clause-import_steps g c =
    let is = ap Some (sym c.in-Some-Init.field-0-is) ∙ c.in-Some-Init.ensures.command in
    λ asks. absurd (subst Imports (sym is) asks)

pub returns-in-Some-Query-clause-import_steps : goal.returns-in-Some-Query-clause-import_steps
returns-in-Some-Query-clause-import_steps g c =
    let is = ap Some (sym c.in-Some-Query.field-0-is) ∙ c.in-Some-Query.ensures.command in
    λ asks. absurd (subst Imports (sym is) asks)

pub returns-in-Some-Question-clause-import_steps : goal.returns-in-Some-Question-clause-import_steps
returns-in-Some-Question-clause-import_steps g c =
    let is = ap Some (sym c.in-Some-Question.field-0-is) ∙ c.in-Some-Question.ensures.command in
    λ asks. absurd (subst Imports (sym is) asks)

pub returns-in-Some-Standalone-clause-import_steps : goal.returns-in-Some-Standalone-clause-import_steps
returns-in-Some-Standalone-clause-import_steps g c =
    let is = ap Some (sym c.in-Some-Standalone.field-0-is) ∙ c.in-Some-Standalone.ensures.command in
    λ asks. absurd (subst Imports (sym is) asks)

pub returns-in-Some-Import-clause-import_steps : goal.returns-in-Some-Import-clause-import_steps
returns-in-Some-Import-clause-import_steps g c = λ _. c.import.ensures.steps

pub returns-in-None-clause-import_steps : goal.returns-in-None-clause-import_steps
returns-in-None-clause-import_steps g c = λ asks. absurd (subst Imports (sym c.in-None.ensures.command) asks)

pub returns-in-Some-Init-clause-told : goal.returns-in-Some-Init-clause-told
returns-in-Some-Init-clause-told g c = c.init.ensures.told

pub returns-in-Some-Import-clause-told : goal.returns-in-Some-Import-clause-told
returns-in-Some-Import-clause-told g c = c.import.ensures.told

pub returns-in-Some-Query-clause-told : goal.returns-in-Some-Query-clause-told
returns-in-Some-Query-clause-told g c = c.query.ensures.told

pub returns-in-Some-Question-clause-told : goal.returns-in-Some-Question-clause-told
returns-in-Some-Question-clause-told g c = c.question.ensures.told

pub returns-in-Some-Standalone-clause-told : goal.returns-in-Some-Standalone-clause-told
returns-in-Some-Standalone-clause-told g c = refl

pub returns-in-None-clause-told : goal.returns-in-None-clause-told
returns-in-None-clause-told g c = refl

pub returns-in-Some-Init-clause-still : goal.returns-in-Some-Init-clause-still
returns-in-Some-Init-clause-still g c =
    let is = ap Some (sym c.in-Some-Init.field-0-is) ∙ c.in-Some-Init.ensures.command in
    λ asks. absurd (subst Imports (sym is) asks)

pub returns-in-Some-Query-clause-still : goal.returns-in-Some-Query-clause-still
returns-in-Some-Query-clause-still g c =
    let is = ap Some (sym c.in-Some-Query.field-0-is) ∙ c.in-Some-Query.ensures.command in
    λ asks. absurd (subst Imports (sym is) asks)

pub returns-in-Some-Question-clause-still : goal.returns-in-Some-Question-clause-still
returns-in-Some-Question-clause-still g c =
    let is = ap Some (sym c.in-Some-Question.field-0-is) ∙ c.in-Some-Question.ensures.command in
    λ asks. absurd (subst Imports (sym is) asks)

pub returns-in-Some-Standalone-clause-still : goal.returns-in-Some-Standalone-clause-still
returns-in-Some-Standalone-clause-still g c =
    let is = ap Some (sym c.in-Some-Standalone.field-0-is) ∙ c.in-Some-Standalone.ensures.command in
    λ asks. absurd (subst Imports (sym is) asks)

pub returns-in-Some-Import-clause-still : goal.returns-in-Some-Import-clause-still
returns-in-Some-Import-clause-still g c = λ _. c.import.ensures.still

pub returns-in-None-clause-still : goal.returns-in-None-clause-still
returns-in-None-clause-still g c = λ asks. absurd (subst Imports (sym c.in-None.ensures.command) asks)

pub returns-in-Some-Init-clause-records : goal.returns-in-Some-Init-clause-records
returns-in-Some-Init-clause-records g c =
    let is = ap Some (sym c.in-Some-Init.field-0-is) ∙ c.in-Some-Init.ensures.command in
    λ opens. absurd (subst OpensStore (sym is) opens)

pub returns-in-Some-Import-clause-records : goal.returns-in-Some-Import-clause-records
returns-in-Some-Import-clause-records g c =
    let is = ap Some (sym c.in-Some-Import.field-0-is) ∙ c.in-Some-Import.ensures.command in
    λ _. subst (λ (o : Option Command). SourceGave (g.S.Source.left c.args.input.now) (g.S.Source.left c.import.new.input)
    (λ given. (now : Image) (chain : Chain) → g.D.Disk.reads_as c.args.disk.now ≡ Some now → store_of now ≡ Keeps chain
    → KeepsRecords (MayAdd o chain given) now (g.D.Disk.images c.args.disk.now) (g.D.Disk.images c.import.new.disk) (g.D.Disk.left_since c.import.new.disk (g.D.Disk.moment c.args.disk.now)))) is
    c.import.ensures.records

pub returns-in-Some-Query-clause-records : goal.returns-in-Some-Query-clause-records
returns-in-Some-Query-clause-records g c =
    let is = ap Some (sym c.in-Some-Query.field-0-is) ∙ c.in-Some-Query.ensures.command in
    λ _. subst (λ (o : Option Command). SourceGave (g.S.Source.left c.args.input.now) (g.S.Source.left c.args.input.now)
    (λ given. (now : Image) (chain : Chain) → g.D.Disk.reads_as c.args.disk.now ≡ Some now → store_of now ≡ Keeps chain
    → KeepsRecords (MayAdd o chain given) now (g.D.Disk.images c.args.disk.now) (g.D.Disk.images c.query.new.disk) (g.D.Disk.left_since c.query.new.disk (g.D.Disk.moment c.args.disk.now)))) is
    ([], gives_none (g.S.Source.left c.args.input.now), c.query.ensures.records)

pub returns-in-Some-Question-clause-records : goal.returns-in-Some-Question-clause-records
returns-in-Some-Question-clause-records g c =
    let is = ap Some (sym c.in-Some-Question.field-0-is) ∙ c.in-Some-Question.ensures.command in
    λ _. subst (λ (o : Option Command). SourceGave (g.S.Source.left c.args.input.now) (g.S.Source.left c.question.new.input)
    (λ given. (now : Image) (chain : Chain) → g.D.Disk.reads_as c.args.disk.now ≡ Some now → store_of now ≡ Keeps chain
    → KeepsRecords (MayAdd o chain given) now (g.D.Disk.images c.args.disk.now) (g.D.Disk.images c.question.new.disk) (g.D.Disk.left_since c.question.new.disk (g.D.Disk.moment c.args.disk.now)))) is
    (let answered = c.question.ensures.question in (answered.0, answered.2, c.question.ensures.records))

pub returns-in-Some-Standalone-clause-records : goal.returns-in-Some-Standalone-clause-records
returns-in-Some-Standalone-clause-records g c =
    let is = ap Some (sym c.in-Some-Standalone.field-0-is) ∙ c.in-Some-Standalone.ensures.command in
    λ opens. absurd (subst OpensStore (sym is) opens)

pub returns-in-None-clause-records : goal.returns-in-None-clause-records
returns-in-None-clause-records g c = λ opens. absurd (subst OpensStore (sym c.in-None.ensures.command) opens)

pub returns-in-Some-Migrate-clause-run : goal.returns-in-Some-Migrate-clause-run
returns-in-Some-Migrate-clause-run g c =
    let is = ap Some (sym c.in-Some-Migrate.field-0-is) ∙ c.in-Some-Migrate.ensures.command in
    let told = c.migrate.ensures.migration in (
      [],
      told.0,
      gives_none (g.S.Source.left c.args.input.now),
      told.1,
      subst (λ (o : Option Command). IsPromised o (g.D.Disk.reads_as c.args.disk.now) (g.D.Disk.images c.args.disk.now) (g.D.Disk.images c.migrate.new.disk)
          (g.D.Disk.left_since c.migrate.new.disk (g.D.Disk.moment c.args.disk.now)) (g.S.Source.left c.args.input.now) [] told.0 c.migrate.result) is
          (migrate_promised c.in-Some-Migrate.epoch (g.D.Disk.reads_as c.args.disk.now) (g.D.Disk.images c.args.disk.now) (g.D.Disk.images c.migrate.new.disk)
          (g.D.Disk.left_since c.migrate.new.disk (g.D.Disk.moment c.args.disk.now)) (g.S.Source.left c.args.input.now) told.0 c.migrate.result
          (g.met.D.Disk.reads_image c.args.disk.now) (told.2 (g.S.Source.left c.args.input.now))),
    )

pub returns-in-Some-Migrate-clause-words : goal.returns-in-Some-Migrate-clause-words
returns-in-Some-Migrate-clause-words g c =
    let is = ap Some (sym c.in-Some-Migrate.field-0-is) ∙ c.in-Some-Migrate.ensures.command in
    words_are_good _ (Migrate c.in-Some-Migrate.epoch) c.migrate.result is c.migrate.ensures.status

pub returns-in-Some-Migrate-clause-silent : goal.returns-in-Some-Migrate-clause-silent
returns-in-Some-Migrate-clause-silent g c = λ bad. absurd (never_bad_words (Migrate c.in-Some-Migrate.epoch) c.migrate.result c.migrate.ensures.status bad)

pub returns-in-Some-Migrate-clause-status : goal.returns-in-Some-Migrate-clause-status
returns-in-Some-Migrate-clause-status g c =
    let is = ap Some (sym c.in-Some-Migrate.field-0-is) ∙ c.in-Some-Migrate.ensures.command in
    subst (λ (o : Option Command). IsOneOf (statuses_of o) c.migrate.result) is c.migrate.ensures.status

pub returns-in-Some-Migrate-clause-input_faults : goal.returns-in-Some-Migrate-clause-input_faults
returns-in-Some-Migrate-clause-input_faults g c = no_fault _ _ refl (migrate_no_input_fault c.migrate.result c.migrate.ensures.status)

pub returns-in-Some-Migrate-clause-out_faults : goal.returns-in-Some-Migrate-clause-out_faults
returns-in-Some-Migrate-clause-out_faults g c = c.migrate.ensures.out_faults

pub returns-in-Some-Migrate-clause-disk_faults : goal.returns-in-Some-Migrate-clause-disk_faults
returns-in-Some-Migrate-clause-disk_faults g c = c.migrate.ensures.disk_faults

pub returns-in-Some-Migrate-clause-uncalled : goal.returns-in-Some-Migrate-clause-uncalled
returns-in-Some-Migrate-clause-uncalled g c =
    let is = ap Some (sym c.in-Some-Migrate.field-0-is) ∙ c.in-Some-Migrate.ensures.command in
    λ uncalled. absurd (subst CallsNoDisk (sym is) uncalled)

pub returns-in-Some-Migrate-clause-as_before : goal.returns-in-Some-Migrate-clause-as_before
returns-in-Some-Migrate-clause-as_before g c =
    let is = ap Some (sym c.in-Some-Migrate.field-0-is) ∙ c.in-Some-Migrate.ensures.command in
    λ told. absurd (subst (λ (o : Option Command). IsOneOf (as_before o) c.migrate.result) (sym is) told)

pub returns-in-Some-Migrate-clause-log_there : goal.returns-in-Some-Migrate-clause-log_there
returns-in-Some-Migrate-clause-log_there g c =
    let is = ap Some (sym c.in-Some-Migrate.field-0-is) ∙ c.in-Some-Migrate.ensures.command in
    λ now told other init. absurd (subst IsNotInit (is ∙ init) tt)

pub returns-in-Some-Migrate-clause-loses_nothing : goal.returns-in-Some-Migrate-clause-loses_nothing
returns-in-Some-Migrate-clause-loses_nothing g c = λ now told none opens. c.migrate.ensures.no_log now told none

pub returns-in-Some-Migrate-clause-steps : goal.returns-in-Some-Migrate-clause-steps
returns-in-Some-Migrate-clause-steps g c =
    let is = ap Some (sym c.in-Some-Migrate.field-0-is) ∙ c.in-Some-Migrate.ensures.command in
    λ never. absurd (never (subst OpensStore is tt))

pub returns-in-Some-Migrate-clause-rests : goal.returns-in-Some-Migrate-clause-rests
returns-in-Some-Migrate-clause-rests g c =
    let is = ap Some (sym c.in-Some-Migrate.field-0-is) ∙ c.in-Some-Migrate.ensures.command in
    λ now told closed query. absurd (subst AsksStore (sym is) query)

pub returns-in-Some-Migrate-clause-query_steps : goal.returns-in-Some-Migrate-clause-query_steps
returns-in-Some-Migrate-clause-query_steps g c =
    let is = ap Some (sym c.in-Some-Migrate.field-0-is) ∙ c.in-Some-Migrate.ensures.command in
    λ now told query. absurd (subst AsksStore (sym is) query)

pub returns-in-Some-Migrate-clause-import_steps : goal.returns-in-Some-Migrate-clause-import_steps
returns-in-Some-Migrate-clause-import_steps g c =
    let is = ap Some (sym c.in-Some-Migrate.field-0-is) ∙ c.in-Some-Migrate.ensures.command in
    λ asks. absurd (subst Imports (sym is) asks)

pub returns-in-Some-Migrate-clause-told : goal.returns-in-Some-Migrate-clause-told
returns-in-Some-Migrate-clause-told g c = c.migrate.ensures.told

pub returns-in-Some-Migrate-clause-still : goal.returns-in-Some-Migrate-clause-still
returns-in-Some-Migrate-clause-still g c =
    let is = ap Some (sym c.in-Some-Migrate.field-0-is) ∙ c.in-Some-Migrate.ensures.command in
    λ asks. absurd (subst Imports (sym is) asks)

pub returns-in-Some-Migrate-clause-records : goal.returns-in-Some-Migrate-clause-records
returns-in-Some-Migrate-clause-records g c =
    let is = ap Some (sym c.in-Some-Migrate.field-0-is) ∙ c.in-Some-Migrate.ensures.command in
    λ _. subst (λ (o : Option Command). SourceGave (g.S.Source.left c.args.input.now) (g.S.Source.left c.args.input.now)
    (λ given. (now : Image) (chain : Chain) → g.D.Disk.reads_as c.args.disk.now ≡ Some now → store_of now ≡ Keeps chain
    → KeepsRecords (MayAdd o chain given) now (g.D.Disk.images c.args.disk.now) (g.D.Disk.images c.migrate.new.disk) (g.D.Disk.left_since c.migrate.new.disk (g.D.Disk.moment c.args.disk.now)))) is
    ([], gives_none (g.S.Source.left c.args.input.now), c.migrate.ensures.records)

pub returns-in-Some-Init-clause-migrate_steps : goal.returns-in-Some-Init-clause-migrate_steps
returns-in-Some-Init-clause-migrate_steps g c =
    let is = ap Some (sym c.in-Some-Init.field-0-is) ∙ c.in-Some-Init.ensures.command in
    λ now told migrates. absurd (subst Migrates (sym is) migrates)

pub returns-in-Some-Import-clause-migrate_steps : goal.returns-in-Some-Import-clause-migrate_steps
returns-in-Some-Import-clause-migrate_steps g c =
    let is = ap Some (sym c.in-Some-Import.field-0-is) ∙ c.in-Some-Import.ensures.command in
    λ now told migrates. absurd (subst Migrates (sym is) migrates)

pub returns-in-Some-Query-clause-migrate_steps : goal.returns-in-Some-Query-clause-migrate_steps
returns-in-Some-Query-clause-migrate_steps g c =
    let is = ap Some (sym c.in-Some-Query.field-0-is) ∙ c.in-Some-Query.ensures.command in
    λ now told migrates. absurd (subst Migrates (sym is) migrates)

pub returns-in-Some-Question-clause-migrate_steps : goal.returns-in-Some-Question-clause-migrate_steps
returns-in-Some-Question-clause-migrate_steps g c =
    let is = ap Some (sym c.in-Some-Question.field-0-is) ∙ c.in-Some-Question.ensures.command in
    λ now told migrates. absurd (subst Migrates (sym is) migrates)

pub returns-in-Some-Standalone-clause-migrate_steps : goal.returns-in-Some-Standalone-clause-migrate_steps
returns-in-Some-Standalone-clause-migrate_steps g c =
    let is = ap Some (sym c.in-Some-Standalone.field-0-is) ∙ c.in-Some-Standalone.ensures.command in
    λ now told migrates. absurd (subst Migrates (sym is) migrates)

pub returns-in-Some-Migrate-clause-migrate_steps : goal.returns-in-Some-Migrate-clause-migrate_steps
returns-in-Some-Migrate-clause-migrate_steps g c = λ now told _. c.migrate.ensures.most now told

pub returns-in-None-clause-migrate_steps : goal.returns-in-None-clause-migrate_steps
returns-in-None-clause-migrate_steps g c = λ now told migrates. absurd (subst Migrates (sym c.in-None.ensures.command) migrates)

pub returns-in-Some-Init-clause-refused_rests : goal.returns-in-Some-Init-clause-refused_rests
returns-in-Some-Init-clause-refused_rests g c =
    let is = ap Some (sym c.in-Some-Init.field-0-is) ∙ c.in-Some-Init.ensures.command in
    λ now told closed migrates. absurd (subst Migrates (sym is) migrates)

pub returns-in-Some-Import-clause-refused_rests : goal.returns-in-Some-Import-clause-refused_rests
returns-in-Some-Import-clause-refused_rests g c =
    let is = ap Some (sym c.in-Some-Import.field-0-is) ∙ c.in-Some-Import.ensures.command in
    λ now told closed migrates. absurd (subst Migrates (sym is) migrates)

pub returns-in-Some-Query-clause-refused_rests : goal.returns-in-Some-Query-clause-refused_rests
returns-in-Some-Query-clause-refused_rests g c =
    let is = ap Some (sym c.in-Some-Query.field-0-is) ∙ c.in-Some-Query.ensures.command in
    λ now told closed migrates. absurd (subst Migrates (sym is) migrates)

pub returns-in-Some-Question-clause-refused_rests : goal.returns-in-Some-Question-clause-refused_rests
returns-in-Some-Question-clause-refused_rests g c =
    let is = ap Some (sym c.in-Some-Question.field-0-is) ∙ c.in-Some-Question.ensures.command in
    λ now told closed migrates. absurd (subst Migrates (sym is) migrates)

pub returns-in-Some-Standalone-clause-refused_rests : goal.returns-in-Some-Standalone-clause-refused_rests
returns-in-Some-Standalone-clause-refused_rests g c =
    let is = ap Some (sym c.in-Some-Standalone.field-0-is) ∙ c.in-Some-Standalone.ensures.command in
    λ now told closed migrates. absurd (subst Migrates (sym is) migrates)

pub returns-in-Some-Migrate-clause-refused_rests : goal.returns-in-Some-Migrate-clause-refused_rests
returns-in-Some-Migrate-clause-refused_rests g c = λ now told closed _ refused. c.migrate.ensures.rests now told closed refused

pub returns-in-None-clause-refused_rests : goal.returns-in-None-clause-refused_rests
returns-in-None-clause-refused_rests g c = λ now told closed migrates. absurd (subst Migrates (sym c.in-None.ensures.command) migrates)
