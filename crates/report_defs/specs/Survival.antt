-- What a run promises of the disk, and what follows for any list of runs, each stopped anywhere (docs/PROVED.md, "A run").
--
-- A stop at some moment is a run whose source, sink and disk fail from that moment on, so that a list of runs is a list of calls.
use Rattle.std.specs.Prelude.{◌≡◌, ◌⊎◌, true, false, ℕ, ◌≤◌, List, [], ◌∷◌, ◌++◌, length, take, drop, Option, Some, None, IsSome}
use Rattle.std.specs.List.{concat}
use Rattle.outside.specs.Image.{Image}
use Rattle.disk_defs.specs.Log.{Record, magic, records_of, body_of_parts, edition_record}
use Rattle.verdict_defs.specs.Verdict.{joins}
use Rattle.verdict_defs.specs.Chain.{Chain, chain_of_genesis, chain_after, chain_over, verdict_over}
use Rattle.store_defs.specs.Store.{Store, Keeps, store_of, StandsFor, IsSound, new_image}
use Rattle.store_defs.specs.Migration.{migration, is_done, migrated}
use Rattle.report_defs.specs.declared.command.Command.{Command}
use Rattle.report_defs.specs.declared.command.Command.TheVariants.{Init, Import, Migrate, Query, Question, Standalone, Simulation}
use Rattle.report_defs.specs.declared.status.Status.{Status}
use Rattle.report_defs.specs.declared.status.Status.TheVariants.{Done, SomeRefused, InputFault, DiskFault, NoMemory, CutInput, BadSize, StoreThere, BadGenesis, ExtraInput, TooEarly, AlreadyMigrated}
use Rattle.report_defs.specs.Status.{IsOneOf}
use Rattle.report_defs.specs.Items.{split_of}
use Rattle.report_defs.specs.Report.{text_of, init_limits, import_limits, question_limits, lines_over, answer_to_query, report_of_question, IsReport}
use Rattle.report_defs.specs.Promise.{IsPrefix, Finds, MatchesReport, KeepsOrder}

-- ---- A run and what it may keep

-- the items of which a run may keep blocks, of what its source gave
abbrev pub items_of : Option Command → List ℕ → List (List ℕ)
items_of None given = []
items_of (Some Init) given = []
items_of (Some (Import watched)) given = (split_of import_limits given).items
items_of (Some (Migrate epoch)) given = []
items_of (Some (Query query)) given = []
items_of (Some (Question question)) given = []
items_of (Some (Standalone command)) given = []
items_of (Some (Simulation simulation)) given = []

-- the lock that a run watches
abbrev pub watched_of : Option Command → Option (List ℕ)
watched_of None = None
watched_of (Some Init) = None
watched_of (Some (Import watched)) = watched
watched_of (Some (Migrate epoch)) = None
watched_of (Some (Query query)) = None
watched_of (Some (Question question)) = None
watched_of (Some (Standalone command)) = None
watched_of (Some (Simulation simulation)) = None

-- What was taken agrees with a text: it is a prefix of it, or goes on after it.
abbrev pub Agrees : List ℕ → List ℕ → Type 0
Agrees taken text = IsPrefix taken text ⊎ IsPrefix text taken

-- A prefix of a run's items: at most those that its source gave whole, and at least those whose whole line its sink took. What is
-- written after the lines counts for none.
pub record IsKeptPrefix (watched : Option (List ℕ)) (chain : Chain) (items : List (List ℕ)) (taken : List ℕ) (count : ℕ) : Type 0 where
  -- it is this chain over which the items were answered
  pub answered : Agrees taken (concat (lines_over watched chain items))
  pub most : count ≤ length items
  pub acknowledged : (n : ℕ) → n ≤ length items → IsPrefix (concat (lines_over watched chain (take n items))) taken → n ≤ count

-- No item joins, each over what is kept by then.
abbrev pub NoneJoins : Chain → List (List ℕ) → Type 0
NoneJoins chain [] = Unit {0}
NoneJoins chain (item ∷ items) = (joins (verdict_over chain item) ≡ false) × NoneJoins (chain_after chain item) items

-- ---- The records of LOG

-- records of some of these items, in their order, with some ext after each item
abbrev pub AreOfSome : List (List ℕ) → List Record → Type 0
AreOfSome [] records = records ≡ []
AreOfSome (item ∷ items) records = AreOfSome items records
    ⊎ ((ext : List ℕ) × (later : List Record) × (records ≡ record { kind = 3; body = body_of_parts item ext } ∷ later) × AreOfSome items later)

-- nothing, or the record of the edition that is asked for, where the chain may have it
abbrev pub IsOfEdition : ℕ → Chain → List Record → Type 0
IsOfEdition epoch chain records = (records ≡ []) ⊎ ((is_done (migration chain epoch) ≡ true) × (records ≡ edition_record epoch ∷ []))

-- the records that a command may add to those of a chain, of what its source gave
abbrev pub MayAdd : Option Command → Chain → List ℕ → List Record → Type 0
MayAdd None chain given records = records ≡ []
MayAdd (Some Init) chain given records = records ≡ []
MayAdd (Some (Import watched)) chain given records = AreOfSome (split_of import_limits given).items records
MayAdd (Some (Migrate epoch)) chain given records = IsOfEdition epoch chain records
MayAdd (Some (Query query)) chain given records = records ≡ []
MayAdd (Some (Question question)) chain given records = records ≡ []
MayAdd (Some (Standalone command)) chain given records = records ≡ []
MayAdd (Some (Simulation simulation)) chain given records = records ≡ []

-- The bytes are a log with these records, and after them some that may be added.
pub record GoesOn (MayFollow : List Record → Type 0) (records : List Record) (bytes : List ℕ) : Type 0 where
  pub begins : take 8 bytes ≡ magic
  pub added : List Record
  pub some : MayFollow added
  pub holds : records_of (drop 8 bytes) ≡ records ++ added

-- ---- Lists of runs

-- A run: what its words asked for, what its source gave, what its sink took, and the status that it ended with, or none where it was stopped at a moment.
pub record Run : Type 0 where
  pub command : Option Command
  pub given : List ℕ
  pub taken : List ℕ
  pub status : Option Status

-- all was read and answered
abbrev pub IsDone : Option Status → Type 0
IsDone None = ⊥
IsDone (Some status) = IsOneOf (Done ∷ SomeRefused ∷ []) status

-- What a query or a question answers, over a chain: nothing where the command is neither.
abbrev pub Answers : Option Command → Chain → List ℕ → List ℕ → Type 0
Answers None kept given taken = Unit {0}
Answers (Some Init) kept given taken = Unit {0}
Answers (Some (Import watched)) kept given taken = Unit {0}
Answers (Some (Migrate epoch)) kept given taken = Unit {0}
Answers (Some (Query query)) kept given taken = taken ≡ answer_to_query query kept
Answers (Some (Question question)) kept given taken = taken ≡ text_of (report_of_question question kept (split_of (question_limits question) given))
Answers (Some (Standalone command)) kept given taken = Unit {0}
Answers (Some (Simulation simulation)) kept given taken = Unit {0}

-- with these `migrate` gives no edition
abbrev pub refusals : List Status
refusals = TooEarly ∷ AlreadyMigrated ∷ []

abbrev pub IsRefused : Option Status → Type 0
IsRefused None = ⊥
IsRefused (Some status) = IsOneOf refusals status

-- What a run may leave of the edition of what was kept: it is as before, or `migrate` gave it the one that was asked for; where that is done, it did,
-- and where it was refused, it did not.
abbrev pub IsUnderEdition : Option Command → Option Status → Chain → Chain → Type 0
IsUnderEdition None status before under = under ≡ before
IsUnderEdition (Some Init) status before under = under ≡ before
IsUnderEdition (Some (Import watched)) status before under = under ≡ before
IsUnderEdition (Some (Migrate epoch)) status before under = ((status ≡ Some Done → ⊥) × (under ≡ before)) ⊎ ((IsRefused status → ⊥) × (under ≡ migrated epoch before))
IsUnderEdition (Some (Query query)) status before under = under ≡ before
IsUnderEdition (Some (Question question)) status before under = under ≡ before
IsUnderEdition (Some (Standalone command)) status before under = under ≡ before
IsUnderEdition (Some (Simulation simulation)) status before under = under ≡ before

-- What a run may leave of what was kept before it: it gave it an edition, or added what joined of a prefix of its items, and a query or a question that
-- is done answered over what was kept.
pub record IsKeptAfter (before : Chain) (run : Run) (kept : Chain) : Type 0 where
  pub under : Chain
  pub edition : IsUnderEdition run.command run.status before under
  pub count : ℕ
  pub prefix : IsKeptPrefix (watched_of run.command) before (items_of run.command run.given) run.taken count
  pub added : kept ≡ chain_over under (take count (items_of run.command run.given))
  pub answered : IsDone run.status → Answers run.command before run.given run.taken

-- What may be kept after runs from a genesis on, the newest first.
abbrev pub IsKeptBy : Chain → List Run → Chain → Type 0
IsKeptBy genesis [] kept = kept ≡ genesis
IsKeptBy genesis (run ∷ earlier) kept = (before : Chain) × IsKeptBy genesis earlier before × IsKeptAfter before run kept

-- Such runs may leave this image: it is sound, and keeps such blocks.
abbrev pub IsLeftBy : Chain → List Run → Image → Type 0
IsLeftBy genesis past image = (kept : Chain) × IsKeptBy genesis past kept × StandsFor kept image

-- each of these images is so
abbrev pub Each : (Image → Type 0) → (Image → Type 0) → Type 0
Each images P = (image : Image) → images image → P image

-- ---- What a run promises

-- A disk during a run: what it read as at the start, and the images that a crash might have left at the start, at the exit, and at
-- any moment in between.

-- A command that opens the store, over sound images and the chain that the disk read as.
pub record KeepsStore (watched : Option (List ℕ)) (chain : Chain) (items : List (List ℕ)) (taken : List ℕ) (status : Status) (at_start at_exit meanwhile : Image → Type 0) : Type 0 where
  -- At the exit each image keeps what joined of a prefix of the items. Where the disk failed or memory ran out before a line was
  -- taken, it may be an image of the start instead.
  pub exit : Each at_exit (λ image. (IsOneOf (DiskFault ∷ NoMemory ∷ []) status × (taken ≡ []) × at_start image)
      ⊎ ((count : ℕ) × IsKeptPrefix watched chain items taken count × StandsFor (chain_over chain (take count items)) image))
  -- at each moment it is one of the start, or keeps what joined of some items
  pub moments : Each meanwhile (λ image. at_start image ⊎ ((count : ℕ) × (count ≤ length items) × StandsFor (chain_over chain (take count items)) image))

-- Over the chain that the disk read as, where each image at the start is sound.
abbrev pub KeepsItems : Option (List ℕ) → List (List ℕ) → Image → (Image → Type 0) → (Image → Type 0) → (Image → Type 0) → List ℕ → Status → Type 0
KeepsItems watched items now at_start at_exit meanwhile taken status = (chain : Chain) → store_of now ≡ Keeps chain → Each at_start IsSound
    → KeepsStore watched chain items taken status at_start at_exit meanwhile

-- `migrate`, over sound images and the chain that the disk read as: no block is added, and none goes.
pub record MovesStore (epoch : ℕ) (chain : Chain) (taken : List ℕ) (status : Status) (at_start at_exit meanwhile : Image → Type 0) : Type 0 where
  -- At the exit each image is under the edition as before, but where it is done, or under that which is asked for, but where it is refused. Where the
  -- disk failed or memory ran out it may be an image of the start instead.
  pub exit : Each at_exit (λ image. (IsOneOf (DiskFault ∷ NoMemory ∷ []) status × (taken ≡ []) × at_start image)
      ⊎ (((status ≡ Done → ⊥) × StandsFor chain image) ⊎ ((IsOneOf refusals status → ⊥) × StandsFor (migrated epoch chain) image)))
  pub moments : Each meanwhile (λ image. at_start image ⊎ (StandsFor chain image ⊎ StandsFor (migrated epoch chain) image))
  -- where it is done the disk has one image
  pub done : status ≡ Done → (only : Image) × Each at_exit (λ image. image ≡ only) × StandsFor (migrated epoch chain) only
  -- where it is refused the edition is as before
  pub refused : IsOneOf refusals status → Each at_exit (StandsFor chain)

abbrev pub MovesEdition : ℕ → Image → (Image → Type 0) → (Image → Type 0) → (Image → Type 0) → List ℕ → Status → Type 0
MovesEdition epoch now at_start at_exit meanwhile taken status = (chain : Chain) → store_of now ≡ Keeps chain → Each at_start IsSound
    → MovesStore epoch chain taken status at_start at_exit meanwhile

-- A command that opens the store, over a LOG that reads as a log, sound or not, and whatever status it ends with: each image is one of the start,
-- or its LOG has the records that it read as at the start, and after them some that may follow.
pub record KeepsRecords (MayFollow : List Record → Type 0) (now : Image) (at_start at_exit meanwhile : Image → Type 0) : Type 0 where
  pub exit : Each at_exit (λ image. at_start image ⊎ GoesOn MayFollow (records_of (drop 8 now.log)) image.log)
  pub moments : Each meanwhile (λ image. at_start image ⊎ GoesOn MayFollow (records_of (drop 8 now.log)) image.log)

-- A new store: the disk has one image, which keeps the genesis alone: its log is that of the two items, with not a byte after it, and the other
-- areas are empty.
pub record IsNewStore (given : List ℕ) (at_exit : Image → Type 0) : Type 0 where
  pub specification : List ℕ
  pub genesis : List ℕ
  pub items : (split_of init_limits given).items ≡ specification ∷ genesis ∷ []
  pub only : Image
  pub made : only ≡ new_image specification genesis
  pub one : Each at_exit (λ image. image ≡ only)
  pub stands : StandsFor (chain_of_genesis specification genesis) only

-- By its class, where the disk tells what it reads as.
abbrev pub KeepsDisk : Option Command → Image → (Image → Type 0) → (Image → Type 0) → (Image → Type 0) → List ℕ → List ℕ → Status → Type 0
KeepsDisk None now at_start at_exit meanwhile given taken status = Unit {0}
KeepsDisk (Some Init) now at_start at_exit meanwhile given taken status = status ≡ Done → IsNewStore given at_exit
KeepsDisk (Some (Import watched)) now at_start at_exit meanwhile given taken status =
    KeepsItems watched (split_of import_limits given).items now at_start at_exit meanwhile taken status
KeepsDisk (Some (Migrate epoch)) now at_start at_exit meanwhile given taken status = MovesEdition epoch now at_start at_exit meanwhile taken status
KeepsDisk (Some (Query query)) now at_start at_exit meanwhile given taken status = KeepsItems None [] now at_start at_exit meanwhile taken status
KeepsDisk (Some (Question question)) now at_start at_exit meanwhile given taken status = KeepsItems None [] now at_start at_exit meanwhile taken status
KeepsDisk (Some (Standalone command)) now at_start at_exit meanwhile given taken status = Unit {0}
KeepsDisk (Some (Simulation simulation)) now at_start at_exit meanwhile given taken status = Unit {0}

-- Where each image at the start may be left by a past, each image at the exit may be left by that past and this run.
abbrev pub Survives : Option Command → (Image → Type 0) → (Image → Type 0) → List ℕ → List ℕ → Status → Type 0
Survives command at_start at_exit given taken status = (genesis : Chain) (past : List Run) → Each at_start (IsLeftBy genesis past)
    → Each at_exit (IsLeftBy genesis (record { command = command; given = given; taken = taken; status = Some status } ∷ past))

-- At each moment it may be left by that past and this run, of which no line was taken yet: the disk and the sink share no clock.
abbrev pub SurvivesMeanwhile : Option Command → (Image → Type 0) → (Image → Type 0) → List ℕ → Type 0
SurvivesMeanwhile command at_start meanwhile given = (genesis : Chain) (past : List Run) → Each at_start (IsLeftBy genesis past)
    → Each meanwhile (IsLeftBy genesis (record { command = command; given = given; taken = []; status = None } ∷ past))

-- Where each image at the start may be left by a past, a query or a question that is done answered as a replay of that past.
abbrev pub AnswersAsReplay : Option Command → (Image → Type 0) → List ℕ → List ℕ → Status → Type 0
AnswersAsReplay command at_start given taken status = (genesis : Chain) (past : List Run) → Each at_start (IsLeftBy genesis past)
    → IsOneOf (Done ∷ SomeRefused ∷ []) status → (kept : Chain) × IsKeptBy genesis past kept × Answers command kept given taken

-- What a run promises, all of the bytes that its source gave and its sink took: the disk counts where it tells what it reads as.
pub record IsPromised (command : Option Command) (reads : Option Image) (at_start at_exit meanwhile : Image → Type 0) (left : Option (List ℕ)) (given taken : List ℕ) (status : Status) : Type 0 where
  pub text : (store : Store) → Finds command reads store → MatchesReport (λ whole said. IsReport command whole store said) given left taken status
  pub order : (store : Store) → Finds command reads store → KeepsOrder command store given left taken status
  pub disk : (now : Image) → reads ≡ Some now → KeepsDisk command now at_start at_exit meanwhile given taken status
  pub survives : IsSome reads → Survives command at_start at_exit given taken status
  pub at_each_moment : IsSome reads → SurvivesMeanwhile command at_start meanwhile given
  pub answers : IsSome reads → AnswersAsReplay command at_start given taken status

-- ---- What is said of every disk

-- the statuses of a command with which the disk is as before
abbrev pub as_before : Option Command → List Status
as_before None = []
as_before (Some Init) = InputFault ∷ CutInput ∷ BadSize ∷ StoreThere ∷ BadGenesis ∷ ExtraInput ∷ []
as_before (Some (Import watched)) = []
as_before (Some (Migrate epoch)) = []
as_before (Some (Query query)) = []
as_before (Some (Question question)) = []
as_before (Some (Standalone command)) = []
as_before (Some (Simulation simulation)) = []

-- those that do not look at the disk
abbrev pub CallsNoDisk : Option Command → Type 0
CallsNoDisk None = Unit {0}
CallsNoDisk (Some Init) = ⊥
CallsNoDisk (Some (Import watched)) = ⊥
CallsNoDisk (Some (Migrate epoch)) = ⊥
CallsNoDisk (Some (Query query)) = ⊥
CallsNoDisk (Some (Question question)) = ⊥
CallsNoDisk (Some (Standalone command)) = Unit {0}
CallsNoDisk (Some (Simulation simulation)) = Unit {0}

-- queries and questions: they open the store and keep nothing
abbrev pub AsksStore : Option Command → Type 0
AsksStore None = ⊥
AsksStore (Some Init) = ⊥
AsksStore (Some (Import watched)) = ⊥
AsksStore (Some (Migrate epoch)) = ⊥
AsksStore (Some (Query query)) = Unit {0}
AsksStore (Some (Question question)) = Unit {0}
AsksStore (Some (Standalone command)) = ⊥
AsksStore (Some (Simulation simulation)) = ⊥

-- those that import, whether they watch a lock or not
abbrev pub Imports : Option Command → Type 0
Imports None = ⊥
Imports (Some Init) = ⊥
Imports (Some (Import watched)) = Unit {0}
Imports (Some (Migrate epoch)) = ⊥
Imports (Some (Query query)) = ⊥
Imports (Some (Question question)) = ⊥
Imports (Some (Standalone command)) = ⊥
Imports (Some (Simulation simulation)) = ⊥

-- `migrate`
abbrev pub Migrates : Option Command → Type 0
Migrates None = ⊥
Migrates (Some Init) = ⊥
Migrates (Some (Import watched)) = ⊥
Migrates (Some (Migrate epoch)) = Unit {0}
Migrates (Some (Query query)) = ⊥
Migrates (Some (Question question)) = ⊥
Migrates (Some (Standalone command)) = ⊥
Migrates (Some (Simulation simulation)) = ⊥

-- those that open the store
abbrev pub OpensStore : Option Command → Type 0
OpensStore None = ⊥
OpensStore (Some Init) = ⊥
OpensStore (Some (Import watched)) = Unit {0}
OpensStore (Some (Migrate epoch)) = Unit {0}
OpensStore (Some (Query query)) = Unit {0}
OpensStore (Some (Question question)) = Unit {0}
OpensStore (Some (Standalone command)) = ⊥
OpensStore (Some (Simulation simulation)) = ⊥
