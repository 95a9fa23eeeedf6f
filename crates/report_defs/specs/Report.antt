-- The report of a run that meets no fault and has memory enough: what it prints and how it ends (docs/COMMANDS.md).
use Rattle.std.specs.Prelude.{◌≡◌, ◌⊎◌, ℕ, ◌^◌, ◌<◌, ◌≤◌, List, [], ◌∷◌, ◌++◌, map, length, Option, Some, None, if◌then◌else◌}
use Rattle.std.specs.List.{concat, list_any}
use Rattle.std.specs.Option.{option_map}
use Rattle.chain_defs.specs.Shape.{decoded, IsEncoding}
use Rattle.chain_defs.specs.Schema.{block, Block, cellbase_witness, CellbaseWitness}
use Rattle.chain_defs.specs.Fold.{verdicts}
use Rattle.chain_defs.specs.Tip.{tip}
use Rattle.chain_defs.specs.Specification.{broken_specification_rule}
use Rattle.verdict_defs.specs.declared.verdict.Verdict.{Verdict}
use Rattle.verdict_defs.specs.Verdict.{refuses}
use Rattle.verdict_defs.specs.Chain.{Chain, verdict_over, verdicts_over, chain_after}
use Rattle.verdict_defs.specs.Trial.{trial}
use Rattle.verdict_defs.specs.declared.trial.Trial.{Trial}
use Rattle.verdict_defs.specs.declared.trial.Trial.TheVariants.{Passes, Refused}
use Rattle.pool_defs.specs.Assembly.{Assembled, assembled}
use Rattle.rule_defs.specs.Genesis.{broken_genesis_rule}
use Rattle.store_defs.specs.Store.{Store, NoLog, NotALog, Keeps}
use Rattle.store_defs.specs.declared.moved.Moved.{Moved}
use Rattle.store_defs.specs.declared.moved.Moved.TheVariants as moves
use Rattle.store_defs.specs.Migration.{migration}
use Rattle.machine_defs.specs.Alone.{answer_ecall}
use Rattle.machine_defs.specs.Program.{execution}
use Rattle.machine_defs.specs.Assembly.{lines_of, Assembles, IsFirstBad}
use Rattle.machine_defs.specs.File.{elf_file}
use Rattle.machine_defs.specs.Listing.{dis}
use Rattle.json_defs.specs.Blocks as blocks
use Rattle.json_defs.specs.Laws.{IsReadAs}
use Rattle.report_defs.specs.declared.command.Command.{Command}
use Rattle.report_defs.specs.declared.command.Command.TheVariants.{Init, Import, Migrate, Query, Question, Standalone, Simulation}
use Rattle.report_defs.specs.declared.command.Query as queries
use Rattle.report_defs.specs.declared.command.Query.TheVariants.{Tip, Header, Json, Epoch, Cell, Cells, Dao, Audit}
use Rattle.report_defs.specs.declared.command.Question as questions
use Rattle.report_defs.specs.declared.command.Question.TheVariants.{Check, Assemble}
use Rattle.report_defs.specs.declared.command.Standalone as files
use Rattle.report_defs.specs.declared.command.Standalone.TheVariants.{Exec, Asm, Dis, Unjson}
use Rattle.report_defs.specs.declared.command.Simulation as simulations
use Rattle.report_defs.specs.declared.command.Simulation.TheVariants.{Make, Soak}
use Rattle.report_defs.specs.declared.end.End.{End}
use Rattle.report_defs.specs.declared.end.End.TheVariants.{AtEnd, Cut, BadSize, Extra}
use Rattle.report_defs.specs.declared.status.Status.{Status}
use Rattle.report_defs.specs.declared.status.Status.TheVariants.{Done, SomeRefused, BadWords, NotAStore, CutInput, BadSize as BadSizeStatus, StoreThere, BadGenesis, ExtraInput, TooEarly, AlreadyMigrated}
use Rattle.report_defs.specs.Items.{Limits, Split, split_of, end_offset, whole_limits, end_of_whole}
use Rattle.report_defs.specs.Text.{line, trial_line, tip_line, genesis_line, bad_spec_line, bad_genesis_line, edition_line, too_early_line, cut_line, bad_size_line, extra_line, execution_line, bad_line, bad_json, made_line, soak_line}
use Rattle.report_defs.specs.Assembly.{assembly_items, pool_line, no_block_line, last_line, status_of_lines}
use Rattle.report_defs.specs.Queries.{header_answer, json_answer, epoch_answer, cell_answer, cells_at_tip, total_of, list_answer, dao_answer, audit_answer}
use Rattle.report_defs.specs.declared.counts.Counts.{Counts}
use Rattle.report_defs.specs.Simulation.{generated_counts, AreSoakCounts}

pub record Report : Type 0 where
  -- a line for each item that is answered
  pub lines : List (List ℕ)
  -- what follows them
  pub closing : List ℕ
  pub status : Status

abbrev pub text_of : Report → List ℕ
text_of report = concat report.lines ++ report.closing

-- a report that answers no item
abbrev pub report_without_lines : List ℕ → Status → Report
report_without_lines closing status = record { lines = []; closing = closing; status = status }

-- ---- The end of an input

-- what is said of an input whose reading ends so at an offset
abbrev pub closing_of_end : ℕ → End → List ℕ
closing_of_end offset AtEnd = []
closing_of_end offset Cut = cut_line offset
closing_of_end offset BadSize = bad_size_line offset
closing_of_end offset Extra = extra_line offset

-- and the status, which is another's where it ends between two items
abbrev pub status_of_end : Status → End → Status
status_of_end whole AtEnd = whole
status_of_end whole Cut = CutInput
status_of_end whole BadSize = BadSizeStatus
status_of_end whole Extra = ExtraInput

abbrev pub report_of_end : ℕ → End → Report
report_of_end offset end = report_without_lines (closing_of_end offset end) (status_of_end Done end)

-- An input that is read whole is judged where it ends as it should, and reported by its end where it does not.
abbrev pub report_at_end : Report → ℕ → End → Report
report_at_end judged offset AtEnd = judged
report_at_end judged offset Cut = report_of_end offset Cut
report_at_end judged offset BadSize = report_of_end offset BadSize
report_at_end judged offset Extra = report_of_end offset Extra

-- by how many items are needed, and what is said of those that it has
abbrev pub report_of_whole : ℕ → (List (List ℕ) → Report) → Split → Report
report_of_whole needed judged split = report_at_end (judged split.items) (end_offset split) (end_of_whole needed split)

-- ---- The store

-- what is said over the chain of a store, where there is one
abbrev pub report_over : Store → (Chain → Report) → Report
report_over NoLog over = report_without_lines [] NotAStore
report_over NotALog over = report_without_lines [] NotAStore
report_over (Keeps chain) over = over chain

-- ---- `init`

-- an item has at most 1,048,576 bytes,
unfoldable pub item_limit : ℕ
item_limit = 2 ^ 20

-- and one that is the genesis at most 4,194,304
unfoldable pub genesis_limit : ℕ
genesis_limit = 2 ^ 22

-- the input is a specification and a genesis
abbrev pub init_items : List ℕ
init_items = item_limit ∷ genesis_limit ∷ []

abbrev pub init_limits : Limits
init_limits = whole_limits init_items

-- by the first of S1 to S7 that the specification breaks, or else of G1 to G7 that the genesis breaks
abbrev pub report_of_rules : List ℕ → Option ℕ → Option ℕ → Report
report_of_rules genesis (Some rule) broken = report_without_lines (bad_spec_line rule) BadGenesis
report_of_rules genesis None (Some rule) = report_without_lines (bad_genesis_line rule) BadGenesis
report_of_rules genesis None None = report_without_lines (genesis_line (decoded block genesis)) Done

-- a new store of a specification and a genesis
abbrev pub report_of_new : List ℕ → List ℕ → Report
report_of_new specification genesis = report_of_rules genesis (broken_specification_rule specification) (broken_genesis_rule genesis)

-- (a whole input has both)
abbrev pub report_of_items : List (List ℕ) → Report
report_of_items [] = report_without_lines [] CutInput
report_of_items (specification ∷ []) = report_without_lines [] CutInput
report_of_items (specification ∷ genesis ∷ more) = report_of_new specification genesis

abbrev pub report_of_init : Split → Report
report_of_init split = report_of_whole (length init_items) report_of_items split

-- Nothing is read where there is a log.
abbrev pub init_report : List ℕ → Store → Report
init_report input NoLog = report_of_init (split_of init_limits input)
init_report input NotALog = report_without_lines [] StoreThere
init_report input (Keeps chain) = report_without_lines [] StoreThere

-- ---- `import` and `watch`

-- all items of `import` have at most 2^40 bytes
unfoldable pub input_limit : ℕ
input_limit = 2 ^ 40

abbrev pub import_limits : Limits
import_limits = record { item = λ place. Some item_limit; input = Some input_limit }

-- of a lock that is watched: how many live cells of the best branch have it, and what they hold together
abbrev pub balance_over : Option (List ℕ) → Chain → Option (ℕ × ℕ)
balance_over watched chain = option_map (λ lock. total_of (cells_at_tip lock chain)) watched

-- The line of an item over a chain: the verdict on it, and of a lock that is watched the balance after it.
abbrev pub line_over : Option (List ℕ) → Chain → List ℕ → List ℕ
line_over watched chain item = line (verdict_over chain item) (balance_over watched (chain_after chain item))

-- a line for each item, over what is kept by then
abbrev pub lines_over : Option (List ℕ) → Chain → List (List ℕ) → List (List ℕ)
lines_over watched chain items = verdicts chain_after (line_over watched) chain items

abbrev pub status_of_verdicts : List Verdict → Status
status_of_verdicts judged = if list_any refuses judged then SomeRefused else Done

abbrev pub report_of_import : Option (List ℕ) → Chain → Split → Report
report_of_import watched chain split = record {
  lines = lines_over watched chain split.items;
  closing = closing_of_end (end_offset split) split.end;
  status = status_of_end (status_of_verdicts (verdicts_over chain split.items)) split.end;
}

-- ---- `migrate`

-- what comes of asking for an edition from this epoch on
abbrev pub report_of_moved : ℕ → Moved → Report
report_of_moved epoch moves.Done = report_without_lines (edition_line epoch) Done
report_of_moved epoch (moves.TooEarly reached) = report_without_lines (too_early_line reached) TooEarly
report_of_moved epoch (moves.Already first) = report_without_lines (edition_line first) AlreadyMigrated

abbrev pub report_of_migration : ℕ → Chain → Report
report_of_migration epoch chain = report_of_moved epoch (migration chain epoch)

-- ---- Queries

-- what a query answers over a chain
abbrev pub answer_to_query : queries.Query → Chain → List ℕ
answer_to_query Tip chain = tip_line (tip chain.blocks)
answer_to_query (Header height) chain = header_answer height chain
answer_to_query (Json height) chain = json_answer height chain
answer_to_query Epoch chain = epoch_answer chain
answer_to_query (Cell tx_hash index) chain = cell_answer tx_hash index chain
answer_to_query (Cells lock) chain = list_answer lock chain
answer_to_query (Dao tx_hash index) chain = dao_answer tx_hash index chain
answer_to_query Audit chain = audit_answer chain

abbrev pub report_of_query : queries.Query → Chain → Report
report_of_query query chain = report_without_lines (answer_to_query query chain) Done

-- ---- Questions

-- a refused transaction has the status of a refused block
abbrev pub status_of_trial : Trial → Status
status_of_trial (Passes fee cycles) = Done
status_of_trial (Refused rule) = SomeRefused

abbrev pub report_of_trial : Trial → Report
report_of_trial tried = report_without_lines (trial_line tried) (status_of_trial tried)

-- (a whole input has the transaction)
abbrev pub report_of_check : Chain → List (List ℕ) → Report
report_of_check chain [] = report_without_lines [] CutInput
report_of_check chain (item ∷ more) = report_of_trial (trial chain item)

-- what was assembled: a line for each item, and then the block
abbrev pub report_of_assembled : Assembled → Report
report_of_assembled all = record {
  lines = map pool_line all.lines;
  closing = last_line all;
  status = status_of_lines all.lines all.broken;
}

-- J17: the witness of the cellbase is a canonical `CellbaseWitness`. With another nothing is said of the items.
abbrev pub report_with_witness : Chain → Option CellbaseWitness → List (List ℕ) → Report
report_with_witness chain None items = report_without_lines (no_block_line 17) SomeRefused
report_with_witness chain (Some witness) items = report_of_assembled (assembled chain witness items)

-- (a whole input has the witness)
abbrev pub report_of_assembly : Chain → List (List ℕ) → Report
report_of_assembly chain [] = report_without_lines [] CutInput
report_of_assembly chain (first ∷ items) = report_with_witness chain (decoded cellbase_witness first) items

-- The limits of the items that a question is about: `check` takes a transaction, and `assemble` the witness of a cellbase and up to 1,000 transactions.
-- The first item is needed.
abbrev pub question_items : questions.Question → List ℕ
question_items Check = item_limit ∷ []
question_items Assemble = assembly_items item_limit

abbrev pub question_limits : questions.Question → Limits
question_limits question = whole_limits (question_items question)

-- what it answers of these items over a chain
abbrev pub answer_to_question : questions.Question → Chain → List (List ℕ) → Report
answer_to_question Check chain items = report_of_check chain items
answer_to_question Assemble chain items = report_of_assembly chain items

abbrev pub report_of_question : questions.Question → Chain → Split → Report
report_of_question question chain split = report_of_whole 1 (answer_to_question question chain) split

-- ---- Without a store

-- the most bytes of a command's file
unfoldable pub file_limit : files.Standalone → ℕ
file_limit (Exec budget) = 2 ^ 20
file_limit Asm = 2 ^ 20
file_limit Dis = 2 ^ 20
file_limit Unjson = 2 ^ 24

-- a text is read as a block that these bytes encode
abbrev pub IsBlockOf : List ℕ → List ℕ → Type 0
IsBlockOf text encoding = (v : Block) × IsEncoding block encoding v × IsReadAs blocks.block text v

-- The report of a file within the limit. It is a relation, as the code of a text and the block of a text are. Of a file there is at most one.
abbrev pub IsAnswerToFile : files.Standalone → List ℕ → Report → Type 0
IsAnswerToFile (Exec budget) file said = said ≡ report_without_lines (execution_line (execution answer_ecall budget file)) Done
IsAnswerToFile Asm file said =
    ((code : List ℕ) × Assembles (lines_of file) code × (said ≡ report_without_lines (elf_file code) Done))
    ⊎ ((number : ℕ) × IsFirstBad (lines_of file) number × (said ≡ report_without_lines (bad_line number) SomeRefused))
IsAnswerToFile Dis file said = said ≡ report_without_lines (dis file) Done
IsAnswerToFile Unjson file said =
    ((encoding : List ℕ) × IsBlockOf file encoding × (said ≡ report_without_lines encoding Done))
    ⊎ (((encoding : List ℕ) → ¬ IsBlockOf file encoding) × (said ≡ report_without_lines bad_json SomeRefused))

-- The input is the file, all of it. Of one that is too long nothing else is said.
abbrev pub IsReportOfFile : files.Standalone → List ℕ → Report → Type 0
IsReportOfFile command file said =
    ((file_limit command < length file) × (said ≡ report_without_lines (extra_line (file_limit command)) ExtraInput))
    ⊎ ((length file ≤ file_limit command) × IsAnswerToFile command file said)

-- ---- Generated chains

-- The report of one that is put through a store in memory. It is a relation, as nothing is said of the counts of a `soak` where two hashes are equal.
abbrev pub IsAnswerToSimulation : simulations.Simulation → List ℕ → Type 0
IsAnswerToSimulation (Make seed count) text = text ≡ made_line count (generated_counts seed count)
IsAnswerToSimulation (Soak seed count) text = (counted : Counts) × AreSoakCounts seed count counted × (text ≡ soak_line count counted)

abbrev pub IsReportOfSimulation : simulations.Simulation → Report → Type 0
IsReportOfSimulation simulation said = (text : List ℕ) × IsAnswerToSimulation simulation text × (said ≡ report_without_lines text Done)

-- ---- A run

-- The report by what the words ask for, the input, and what stands in the folder. There is at most one, but for a `soak` of blocks of which two hashes are equal.
abbrev pub IsReport : Option Command → List ℕ → Store → Report → Type 0
IsReport None input store said = said ≡ report_without_lines [] BadWords
IsReport (Some Init) input store said = said ≡ init_report input store
IsReport (Some (Import watched)) input store said = said ≡ report_over store (λ chain. report_of_import watched chain (split_of import_limits input))
IsReport (Some (Migrate epoch)) input store said = said ≡ report_over store (report_of_migration epoch)
IsReport (Some (Query query)) input store said = said ≡ report_over store (report_of_query query)
IsReport (Some (Question question)) input store said = said ≡ report_over store (λ chain. report_of_question question chain (split_of (question_limits question) input))
IsReport (Some (Standalone command)) input store said = IsReportOfFile command input said
IsReport (Some (Simulation simulation)) input store said = IsReportOfSimulation simulation said
