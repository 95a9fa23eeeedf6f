-- The sessions in which a generated chain is imported again and again (docs/COMMANDS.md, "soak").
use Rattle.std.specs.Prelude.{◌≡◌, ℕ, ◌+◌, ◌-◌, ◌*◌, ◌^◌, ◌%◌, ◌≤◌, List, [], ◌∷◌, ◌++◌, map, length, replicate, slice_get, Option, Some, None}
use Rattle.std.specs.List.{range_with_len}
use Rattle.verdict_defs.specs.Chain.{Chain}
use Rattle.made_chain.specs.declared.plan.Session.{Session}
use Rattle.outside.specs.Image.{Image}
use Rattle.crashing.specs.declared.armed.Armed.{Armed}
use Rattle.outside_mem.specs.MemoryDisk.{Recording, reads, MayLeave, IsPick, disk_faults}
use Rattle.report_defs.specs.Simulation.{generated_items}
use Rattle.made_chain.specs.declared.outcome.End.{End}
use Rattle.made_chain.specs.declared.outcome.End.TheVariants.{Whole}
use Rattle.made_chain.specs.Sessions.{items_of, IsKeptAfter, ArePlayed}

-- how a session is stopped: how many calls of its disk it passes, or all, and what it picks
pub record Stop : Type 0 where
  pub pass : Option ℕ
  pub pick : ℕ

abbrev pub stop_of : Session → Stop
stop_of session = record { pass = session.pass; pick = session.pick }

-- session k passes k calls, and picks the seed plus k, modulo 2^64
abbrev pub stop_at : ℕ → ℕ → Stop
stop_at seed k = record { pass = Some k; pick = (seed + k) % 2 ^ 64 }

-- for k from 0 to four times the count of blocks; the last session passes all
abbrev pub stops_of : ℕ → ℕ → List Stop
stops_of seed count = map (stop_at seed) (range_with_len 0 (4 * count + 1)) ++ record { pass = None; pick = 0 } ∷ []

-- how many items of the last session got a verdict
abbrev pub last_acked : List ℕ → ℕ
last_acked [] = 0
last_acked (acked ∷ []) = acked
last_acked (acked ∷ next ∷ later) = last_acked (next ∷ later)

-- A chain after sessions of these items, of which the last got so many verdicts at least.
pub record IsPlayed (before : Chain) (items : List (List (List ℕ))) (size : ℕ) (kept : Chain) : Type 0 where
  pub acked : List ℕ
  pub kept_after : IsKeptAfter before items acked kept
  pub whole : size ≤ last_acked acked

-- ---- All sessions are played

module _ {D C : Type 0} (content_of : D → C) (reads_as : D → Option Image) (images : D → Image → Type 0) (faults : D → ℕ) (picks : D → ℕ → Image → Type 0) where
  -- These sessions were played, and the last of them is whole.
  pub record EndWhole (sessions : List Session) (old new : Armed D) (before after : ℕ) : Type 0 where
    pub acked : List ℕ
    pub ends : List End
    pub played : ArePlayed content_of reads_as images faults picks sessions acked ends old new before after
    pub whole : slice_get ends (length ends - 1) ≡ Some Whole

  -- Each session of a soak over these items was played, stopped as it is to be.
  pub record IsSoaked (seed : ℕ) (items : List (List ℕ)) : Type 0 where
    pub sessions : List Session
    pub items_are : map items_of sessions ≡ replicate (4 * length items + 2) items
    pub stops_are : map stop_of sessions ≡ stops_of seed (length items)
    pub old : Armed D
    pub new : Armed D
    pub before : ℕ
    pub after : ℕ
    pub ended : EndWhole sessions old new before after

-- So it was over a disk in memory, with the blocks of a seed, so many of them.
abbrev pub IsSoakedInMemory : ℕ → ℕ → Type 0
IsSoakedInMemory seed count =
    IsSoaked (λ (disk : Recording). disk.steps) (λ disk. Some (reads disk.steps)) (λ disk. MayLeave disk.steps) disk_faults (λ disk. IsPick disk.steps) seed (generated_items seed count)
