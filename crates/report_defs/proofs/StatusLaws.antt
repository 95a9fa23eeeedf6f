-- A report has a status of its command.
use Rattle.std.proofs.Common.{◌≡◌, ◌⊎◌, inl, inr, ℕ, Bool, true, false, List, [], ◌∷◌, refl, sym, ap, subst}
use Rattle.std.specs.Prelude.{Option, Some, None, is_some, ◌||◌, if◌then◌else◌}
use Rattle.std.specs.List.{list_any}
use Rattle.chain_defs.specs.Shape.{decoded}
use Rattle.chain_defs.specs.Schema.{cellbase_witness, CellbaseWitness}
use Rattle.pool_defs.specs.Assembly.{assembled}
use Rattle.verdict_defs.specs.Verdict.{refuses}
use Rattle.verdict_defs.specs.Chain.{Chain, verdicts_over}
use Rattle.verdict_defs.specs.Trial.{trial}
use Rattle.verdict_defs.specs.declared.trial.Trial.{Trial}
use Rattle.verdict_defs.specs.declared.trial.Trial.TheVariants.{Passes, Refused}
use Rattle.chain_defs.specs.Specification.{broken_specification_rule}
use Rattle.rule_defs.specs.Genesis.{broken_genesis_rule}
use Rattle.store_defs.specs.Store.{Store, NoLog, NotALog, Keeps}
use Rattle.store_defs.specs.declared.moved.Moved.{Moved}
use Rattle.store_defs.specs.declared.moved.Moved.TheVariants as moves
use Rattle.store_defs.specs.Migration.{migration}
use Rattle.report_defs.specs.declared.command.Command.{Command}
use Rattle.report_defs.specs.declared.command.Command.TheVariants.{Init, Import, Migrate, Query, Question, Standalone, Simulation}
use Rattle.report_defs.specs.declared.command.Question as questions
use Rattle.report_defs.specs.declared.command.Question.TheVariants.{Check, Assemble}
use Rattle.report_defs.specs.declared.command.Standalone as files
use Rattle.report_defs.specs.declared.command.Standalone.TheVariants.{Exec, Asm, Dis, Unjson}
use Rattle.report_defs.specs.declared.end.End.{End}
use Rattle.report_defs.specs.declared.end.End.TheVariants as ends
use Rattle.report_defs.specs.declared.status.Status.{Status}
use Rattle.report_defs.specs.declared.status.Status.TheVariants.{Done, SomeRefused, ExtraInput}
use Rattle.report_defs.specs.Status.{IsOneOf}
use Rattle.report_defs.specs.Assembly.{refuses as refuses_line}
use Rattle.report_defs.specs.Items.{split_of, end_offset, end_of_whole}
use Rattle.report_defs.specs.Report.{Report, init_limits, import_limits, question_limits, status_of_end, report_at_end, report_of_rules, report_of_items, init_report, report_of_check, report_with_witness, report_of_assembly, answer_to_question, status_of_trial, IsAnswerToFile, IsReportOfFile, report_of_moved, IsReport}
use Rattle.report_defs.specs.Promise.{init_statuses, import_statuses, migrate_statuses, query_statuses, question_statuses, standalone_statuses, statuses_of}
use Rattle.report_defs.specs.Laws.{HasOwnStatus}

abbrev Has : List Status → Report → Type 0
Has statuses said = IsOneOf statuses said.status

-- ---- `init`

of-rules : (genesis : List ℕ) (first second : Option ℕ) → Has init_statuses (report_of_rules genesis first second)
of-rules genesis (Some rule) second = inr (inr (inr (inr (inr (inr (inr (inr (inl refl))))))))
of-rules genesis None (Some rule) = inr (inr (inr (inr (inr (inr (inr (inr (inl refl))))))))
of-rules genesis None None = inl refl

of-items : (items : List (List ℕ)) → Has init_statuses (report_of_items items)
of-items [] = inr (inr (inr (inr (inr (inl refl)))))
of-items (specification ∷ []) = inr (inr (inr (inr (inr (inl refl)))))
of-items (specification ∷ genesis ∷ more) = of-rules genesis (broken_specification_rule specification) (broken_genesis_rule genesis)

init-end : (judged : Report) (offset : ℕ) (end : End) → Has init_statuses judged → Has init_statuses (report_at_end judged offset end)
init-end judged offset ends.AtEnd has = has
init-end judged offset ends.Cut has = inr (inr (inr (inr (inr (inl refl)))))
init-end judged offset ends.BadSize has = inr (inr (inr (inr (inr (inr (inl refl))))))
init-end judged offset ends.Extra has = inr (inr (inr (inr (inr (inr (inr (inr (inr (inl refl)))))))))

of-init : (input : List ℕ) (store : Store) → Has init_statuses (init_report input store)
of-init input NoLog =
    let split = split_of init_limits input in
    init-end (report_of_items split.items) (end_offset split) (end_of_whole 2 split) (of-items split.items)
of-init input NotALog = inr (inr (inr (inr (inr (inr (inr (inl refl)))))))
of-init input (Keeps chain) = inr (inr (inr (inr (inr (inr (inr (inl refl)))))))

-- ---- `import`

import-end : (refused : Bool) (end : End) → IsOneOf import_statuses (status_of_end (if refused then SomeRefused else Done) end)
import-end true ends.AtEnd = inr (inl refl)
import-end false ends.AtEnd = inl refl
import-end refused ends.Cut = inr (inr (inr (inr (inr (inr (inr (inl refl)))))))
import-end refused ends.BadSize = inr (inr (inr (inr (inr (inr (inr (inr (inl refl))))))))
import-end refused ends.Extra = inr (inr (inr (inr (inr (inr (inr (inr (inr (inl refl)))))))))

-- ---- Questions

of-trial : (tried : Trial) → IsOneOf question_statuses (status_of_trial tried)
of-trial (Passes fee cycles) = inl refl
of-trial (Refused rule) = inr (inl refl)

of-check : (chain : Chain) (items : List (List ℕ)) → Has question_statuses (report_of_check chain items)
of-check chain [] = inr (inr (inr (inr (inr (inr (inr (inl refl)))))))
of-check chain (item ∷ more) = of-trial (trial chain item)

of-lines : (refused : Bool) → IsOneOf question_statuses (if refused then SomeRefused else Done)
of-lines true = inr (inl refl)
of-lines false = inl refl

of-witness : (chain : Chain) (found : Option CellbaseWitness) (items : List (List ℕ)) → Has question_statuses (report_with_witness chain found items)
of-witness chain None items = inr (inl refl)
of-witness chain (Some witness) items =
    let all = assembled chain witness items in
    of-lines (list_any refuses_line all.lines || is_some all.broken)

of-assembly : (chain : Chain) (items : List (List ℕ)) → Has question_statuses (report_of_assembly chain items)
of-assembly chain [] = inr (inr (inr (inr (inr (inr (inr (inl refl)))))))
of-assembly chain (first ∷ items) = of-witness chain (decoded cellbase_witness first) items

of-question : (question : questions.Question) (chain : Chain) (items : List (List ℕ)) → Has question_statuses (answer_to_question question chain items)
of-question Check = of-check
of-question Assemble = of-assembly

question-end : (judged : Report) (offset : ℕ) (end : End) → Has question_statuses judged → Has question_statuses (report_at_end judged offset end)
question-end judged offset ends.AtEnd has = has
question-end judged offset ends.Cut has = inr (inr (inr (inr (inr (inr (inr (inl refl)))))))
question-end judged offset ends.BadSize has = inr (inr (inr (inr (inr (inr (inr (inr (inl refl))))))))
question-end judged offset ends.Extra has = inr (inr (inr (inr (inr (inr (inr (inr (inr (inl refl)))))))))

-- ---- `migrate`

of-moved : (epoch : ℕ) (moved : Moved) → Has migrate_statuses (report_of_moved epoch moved)
of-moved epoch moves.Done = inl refl
of-moved epoch (moves.TooEarly reached) = inr (inr (inr (inr (inr (inl refl)))))
of-moved epoch (moves.Already first) = inr (inr (inr (inr (inr (inr (inl refl))))))

-- ---- Without a store

of-answer : (command : files.Standalone) (file : List ℕ) (said : Report) → IsAnswerToFile command file said → Has (standalone_statuses command) said
of-answer (Exec budget) file said is = inl (ap (λ (r : Report). r.status) is)
of-answer Asm file said (inl code) = inl (ap (λ (r : Report). r.status) code.2)
of-answer Asm file said (inr bad) = inr (inl (ap (λ (r : Report). r.status) bad.2))
of-answer Dis file said is = inl (ap (λ (r : Report). r.status) is)
of-answer Unjson file said (inl read) = inl (ap (λ (r : Report). r.status) read.2)
of-answer Unjson file said (inr none) = inr (inl (ap (λ (r : Report). r.status) none.1))

of-longer : (command : files.Standalone) (said : Report) → said.status ≡ ExtraInput → Has (standalone_statuses command) said
of-longer (Exec budget) said is = inr (inr (inr (inr (inl is))))
of-longer Asm said is = inr (inr (inr (inr (inr (inl is)))))
of-longer Dis said is = inr (inr (inr (inr (inl is))))
of-longer Unjson said is = inr (inr (inr (inr (inr (inl is)))))

of-file : (command : files.Standalone) (file : List ℕ) (said : Report) → IsReportOfFile command file said → Has (standalone_statuses command) said
of-file command file said (inl long) = of-longer command said (ap (λ (r : Report). r.status) long.1)
of-file command file said (inr within) = of-answer command file said within.1

-- ---- All commands

-- a report that is this one has what this one has
told : (statuses : List Status) (said report : Report) → said ≡ report → Has statuses report → Has statuses said
told statuses said report is has = subst (Has statuses) (sym is) has

pub own-status : HasOwnStatus
own-status None input store said is = inl (ap (λ (r : Report). r.status) is)
own-status (Some Init) input store said is = told init_statuses said _ is (of-init input store)
own-status (Some (Import watched)) input NoLog said is = told import_statuses said _ is (inr (inr (inr (inr (inr (inr (inl refl)))))))
own-status (Some (Import watched)) input NotALog said is = told import_statuses said _ is (inr (inr (inr (inr (inr (inr (inl refl)))))))
own-status (Some (Import watched)) input (Keeps chain) said is =
    let split = split_of import_limits input in
    told import_statuses said _ is (import-end (list_any refuses (verdicts_over chain split.items)) split.end)
own-status (Some (Migrate epoch)) input NoLog said is = told migrate_statuses said _ is (inr (inr (inr (inr (inl refl)))))
own-status (Some (Migrate epoch)) input NotALog said is = told migrate_statuses said _ is (inr (inr (inr (inr (inl refl)))))
own-status (Some (Migrate epoch)) input (Keeps chain) said is = told migrate_statuses said _ is (of-moved epoch (migration chain epoch))
own-status (Some (Query query)) input NoLog said is = told query_statuses said _ is (inr (inr (inr (inr (inl refl)))))
own-status (Some (Query query)) input NotALog said is = told query_statuses said _ is (inr (inr (inr (inr (inl refl)))))
own-status (Some (Query query)) input (Keeps chain) said is = told query_statuses said _ is (inl refl)
own-status (Some (Question question)) input NoLog said is = told question_statuses said _ is (inr (inr (inr (inr (inr (inr (inl refl)))))))
own-status (Some (Question question)) input NotALog said is = told question_statuses said _ is (inr (inr (inr (inr (inr (inr (inl refl)))))))
own-status (Some (Question question)) input (Keeps chain) said is =
    let split = split_of (question_limits question) input in
    told question_statuses said _ is (question-end (answer_to_question question chain split.items) (end_offset split) (end_of_whole 1 split) (of-question question chain split.items))
own-status (Some (Standalone command)) input store said is = of-file command input said is
own-status (Some (Simulation simulation)) input store said is = inl (ap (λ (r : Report). r.status) is.2)
