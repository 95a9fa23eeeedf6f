-- What a list of runs over one disk promises, each stopped anywhere (docs/PROVED.md, "A list of runs").
--
-- A list of runs has the oldest first, and a past the newest.
use Rattle.std.specs.Prelude.{◌≡◌, ℕ, List, [], ◌∷◌, Option, Some, IsSome}
use Rattle.outside.specs.Image.{Image}
use Rattle.verdict_defs.specs.Chain.{Chain, chain_of_genesis}
use Rattle.report_defs.specs.declared.command.Command.TheVariants.{Init}
use Rattle.report_defs.specs.declared.status.Status.TheVariants.{Done}
use Rattle.report_defs.specs.Items.{split_of}
use Rattle.report_defs.specs.Report.{init_limits}
use Rattle.report_defs.specs.Survival.{Each, Run, IsDone, Answers, IsKeptBy, IsLeftBy}

-- the past, and these runs after it
abbrev pub then_runs : List Run → List Run → List Run
then_runs past [] = past
then_runs past (run ∷ later) = then_runs (run ∷ past) later

-- A query or a question that is done answered over a chain that the runs before it may keep.
abbrev pub IsAnsweredAfter : Chain → List Run → Run → Type 0
IsAnsweredAfter genesis past run = IsDone run.status → (kept : Chain) × IsKeptBy genesis past kept × Answers run.command kept run.given run.taken

-- So is each of these runs, over the past and the runs before it.
abbrev pub AreAnsweredAfter : Chain → List Run → List Run → Type 0
AreAnsweredAfter genesis past [] = Unit {0}
AreAnsweredAfter genesis past (run ∷ later) = IsAnsweredAfter genesis past run × AreAnsweredAfter genesis (run ∷ past) later

-- The runs go on from a genesis and a past as a replay of it does, whatever stopped where: each image at the end may be left by the past and all of the
-- runs, and each query that is done answered as a replay of what the runs before it keep.
pub record AreReplayed (genesis : Chain) (past runs : List Run) (at_end : Image → Type 0) : Type 0 where
  pub survives : Each at_end (IsLeftBy genesis (then_runs past runs))
  pub answers : AreAnsweredAfter genesis past runs

-- An `init` that is done: the runs after it go on from the genesis that it read, with nothing before them.
pub record BeginsStore (run : Run) (later : List Run) (at_end : Image → Type 0) : Type 0 where
  pub specification : List ℕ
  pub genesis : List ℕ
  pub items : (split_of init_limits run.given).items ≡ specification ∷ genesis ∷ []
  pub replayed : AreReplayed (chain_of_genesis specification genesis) [] later at_end

-- So it is at each place of the list where an `init` is done.
abbrev pub EachBeginsStore : List Run → (Image → Type 0) → Type 0
EachBeginsStore [] at_end = Unit {0}
EachBeginsStore (run ∷ later) at_end = (run.command ≡ Some Init → run.status ≡ Some Done → BeginsStore run later at_end) × EachBeginsStore later at_end

-- What a list of runs promises over a disk that tells what it reads as at the start: the images that a crash might have left at the start, and at the end.
pub record ArePromised (reads : Option Image) (at_start at_end : Image → Type 0) (runs : List Run) : Type 0 where
  -- over what any past left
  pub from_past : IsSome reads → (genesis : Chain) (past : List Run) → Each at_start (IsLeftBy genesis past) → AreReplayed genesis past runs at_end
  -- over whatever was there, from an `init` on
  pub from_init : IsSome reads → EachBeginsStore runs at_end
