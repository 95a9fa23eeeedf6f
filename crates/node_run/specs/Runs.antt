-- Which runs calls were, one after the other over one disk, and what a stop did to it.
use Rattle.std.specs.Prelude.{◌≡◌, ℕ, List, [], ◌∷◌, Option, Some, None, IfSome, map, string_bytes}
use Rattle.outside.specs.Image.{Image}
use Rattle.outside.specs.Causes.{CountsFault}
use Rattle.outside.specs.Streams.{Gives, Takes}
use Rattle.outside.specs.Disk.{HasOneImage, IsAsBefore, IsKnownAsBefore}
use Rattle.crashing.specs.declared.armed.Armed.{Armed}
use Rattle.crashing.specs.Arming.{armed_faults}
use Rattle.report_defs.specs.declared.status.Status.{Status}
use Rattle.report_defs.specs.declared.status.Status.TheVariants.{InputFault, SinkFault, DiskFault}
use Rattle.report_defs.specs.Status.{IsOneOf}
use Rattle.report_defs.specs.Words.{command_of}
use Rattle.report_defs.specs.Promise.{statuses_of}
use Rattle.report_defs.specs.Survival.{Run, IsPromised}
use Rattle.node_run.specs.declared.list.Call.{Call}
use Rattle.node_run.specs.declared.list.Stop.{Stop}

-- what sources, sinks and the disks below armed ones tell, and which images these have for each choice of a crash
module _ {S K D : Type 0} (left : S → Option (List ℕ)) (input_faults : S → ℕ) (taken_by : K → Option (List ℕ)) (out_faults : K → ℕ)
    (reads_as : D → Option Image) (images : D → Image → Type 0) (moment : D → ℕ) (left_since : D → ℕ → Image → Type 0) (disk_faults : D → ℕ)
    (picks : D → ℕ → Image → Type 0) where
  -- A call was this run, over the disk before it and after it: all that one run promises.
  pub record IsRunOf (before after : Call S K) (old new : Armed D) (run : Run) : Type 0 where
    pub words : after.words ≡ before.words
    pub stop : after.stop ≡ before.stop
    pub command : run.command ≡ command_of (map string_bytes before.words.items)
    pub given : Gives (left before.input) (left after.input) run.given
    pub taken : Takes (taken_by before.out) (taken_by after.out) run.taken
    pub status : Status
    pub ended : run.status ≡ Some status
    pub answered : after.status ≡ Some status
    pub promised : IsPromised run.command (reads_as old.disk) (images old.disk) (images new.disk) (left_since new.disk (moment old.disk)) (left after.input) run.given run.taken status
    pub told : IsKnownAsBefore (reads_as old.disk) (reads_as new.disk)
    pub own : IsOneOf (statuses_of run.command) status
    pub input_fault : CountsFault (input_faults before.input) (input_faults after.input) (status ≡ InputFault)
    pub out_fault : CountsFault (out_faults before.out) (out_faults after.out) (status ≡ SinkFault)
    pub disk_fault : CountsFault (armed_faults disk_faults old) (armed_faults disk_faults new) (status ≡ DiskFault)

  -- What arming did: the disk is as before, and lets so many calls through.
  pub record IsArmed (pass : Option ℕ) (old new : Armed D) : Type 0 where
    pub as_before : IsAsBefore reads_as images moment left_since old.disk new.disk
    pub armed : new.pass ≡ pass
    pub uncounted : armed_faults disk_faults new ≡ armed_faults disk_faults old

  -- What a crash did by this choice: the disk has one image, which is one of those that it had for it.
  pub record IsCrashed (pick : ℕ) (old new : Armed D) : Type 0 where
    pub picked : IfSome (reads_as new.disk) (picks old.disk pick)
    pub one_image : HasOneImage (reads_as new.disk) (images new.disk)
    pub told : IsKnownAsBefore (reads_as old.disk) (reads_as new.disk)
    pub disarmed : new.pass ≡ None
    pub uncounted : armed_faults disk_faults new ≡ armed_faults disk_faults old

  -- A call was this run over an armed disk, which crashed after it.
  abbrev pub IsStoppedRunOf : Stop → Call S K → Call S K → Armed D → Armed D → Run → Type 0
  IsStoppedRunOf stop before after old new run = (armed : Armed D) × IsArmed stop.pass old armed × (exit : Armed D) × IsRunOf before after armed exit run × IsCrashed stop.pick exit new

  -- stopped or not
  abbrev pub IsRunWith : Option Stop → Call S K → Call S K → Armed D → Armed D → Run → Type 0
  IsRunWith None before after old new run = IsRunOf before after old new run
  IsRunWith (Some stop) before after old new run = IsStoppedRunOf stop before after old new run

  abbrev pub IsCallOf : Call S K → Call S K → Armed D → Armed D → Run → Type 0
  IsCallOf before after old new run = IsRunWith before.stop before after old new run

  -- Each call was a run, over the disk that the one before it left.
  abbrev pub AreCallsOf : List (Call S K) → List (Call S K) → Armed D → Armed D → List Run → Type 0
  AreCallsOf [] [] old new [] = new ≡ old
  AreCallsOf (before ∷ befores) (after ∷ afters) old new (run ∷ runs) = (between : Armed D) × IsCallOf before after old between run × AreCallsOf befores afters between new runs
  AreCallsOf _ _ old new _ = ⊥
