-- The parts of `import`: what the source gave, what the sink took, and what is kept.
use Rattle.std.specs.Prelude.{◌≡◌, ◌⊎◌, ℕ, ◌≤◌, List, [], ◌∷◌, ◌++◌, length, take, Option, Some, Result, Ok, Err}
use Rattle.std.specs.List.{concat, list_any}
use Rattle.outside.specs.Image.{Image}
use Rattle.verdict_defs.specs.Verdict as rules
use Rattle.verdict_defs.specs.Chain.{Chain, verdicts_over, chain_over}
use Rattle.store_defs.specs.Store.{StandsFor}
use Rattle.report_defs.specs.declared.status.Status.{Status}
use Rattle.report_defs.specs.declared.status.Status.TheVariants.{SinkFault, DiskFault, NoMemory, NotAStore}
use Rattle.report_defs.specs.Items.{AreItems}
use Rattle.report_defs.specs.Text.{line}
use Rattle.report_defs.specs.Report.{item_limit, input_limit, import_limits, line_over}
use Rattle.report_defs.specs.Promise.{IsStoppedBeforeTheSink}
use Rattle.report_defs.specs.Survival.{Each}
use Rattle.run_text.specs.Items.{IsPartial, EndsAt}
use Rattle.run_text.specs.Output.{IsPartOf, IsWritingStop, IsStop, text_over}
use Rattle.run_import.specs.declared.importing.Ended.{Ended}

-- what stops the import of an item that was read, of a store that is sound or not
abbrev pub item_stops : List Status
item_stops = SinkFault ∷ DiskFault ∷ NoMemory ∷ NotAStore ∷ []

-- The import of an item was stopped: only the sink leaves a part of its line.
pub record IsCutShort (text : List ℕ) (status : Status) (taken : List ℕ) : Type 0 where
  pub stop : IsWritingStop status
  pub part : IsPartOf text taken
  pub silent : IsStoppedBeforeTheSink status → taken ≡ []

abbrev pub IsAnswered : {V : Type 0} → List ℕ → Result V Status → List ℕ → Type 0
IsAnswered text (Ok v) taken = taken ≡ text
IsAnswered text (Err status) taken = IsCutShort text status taken

-- an image keeps what joined of some first items
abbrev pub KeepsSome : Chain → List (List ℕ) → Image → Type 0
KeepsSome chain items image = (count : ℕ) × (count ≤ length items) × StandsFor (chain_over chain (take count items)) image

-- Whole items were given, and after them bytes that hold no whole one.
pub record AreGiven (items : List (List ℕ)) (rest given : List ℕ) : Type 0 where
  pub whole : given ≡ concat items ++ rest
  pub all : AreItems import_limits 0 items
  pub within : length (concat items) ≤ input_limit
  pub partial : IsPartial item_limit (Some input_limit) (length (concat items)) rest

-- All items were answered, and the reading ended after them.
pub record IsEnded (watched : Option (List ℕ)) (chain : Chain) (left : Option (List ℕ)) (ended : Ended) (items : List (List ℕ)) (rest taken : List ℕ) : Type 0 where
  pub lines : taken ≡ text_over watched chain items
  pub refused : ended.refused ≡ list_any rules.refuses (verdicts_over chain items)
  pub offset : ended.offset ≡ length (concat items)
  pub ends : EndsAt (Some item_limit) (Some input_limit) (length (concat items)) left ended.end rest

-- The import was stopped when some items were answered: at the reading after them, or at one item more, of whose line a part was taken.
pub record IsStopped (watched : Option (List ℕ)) (chain : Chain) (status : Status) (items before : List (List ℕ)) (rest taken : List ℕ) : Type 0 where
  pub stop : IsStop status
  pub part : List ℕ
  pub taken_is : taken ≡ text_over watched chain before ++ part
  pub silent : IsStoppedBeforeTheSink status → part ≡ []
  pub last : ((items ≡ before) × (part ≡ []))
      ⊎ ((item : List ℕ) × (items ≡ before ++ item ∷ []) × (rest ≡ []) × IsPartOf (line_over watched (chain_over chain before) item) part)

abbrev pub HasCome : Option (List ℕ) → Chain → Option (List ℕ) → Result Ended Status → List (List ℕ) → List (List ℕ) → List ℕ → List ℕ → Type 0
HasCome watched chain left (Ok ended) items before rest taken = (items ≡ before) × IsEnded watched chain left ended items rest taken
HasCome watched chain left (Err status) items before rest taken = IsStopped watched chain status items before rest taken

-- Items were imported one after the other, over a chain. Where the node was on its disk, a crash leaves what joined of those that were
-- answered, or of one more, and at each moment what joined of some.
pub record AreImported (watched : Option (List ℕ)) (chain : Chain) (left : Option (List ℕ)) (result : Result Ended Status) (was_on : Type 0) (at_exit : Image → Type 0)
    (leaves : (Image → Type 0) → Type 0) (given taken : List ℕ) : Type 0 where
  pub items : List (List ℕ)
  pub before : List (List ℕ)
  pub rest : List ℕ
  pub are_given : AreGiven items rest given
  pub came : HasCome watched chain left result items before rest taken
  pub exit : was_on → Each at_exit (λ image. StandsFor (chain_over chain before) image ⊎ StandsFor (chain_over chain items) image)
  pub moments : was_on → leaves (KeepsSome chain items)
