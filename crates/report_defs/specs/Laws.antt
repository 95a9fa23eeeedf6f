-- What is true of the reports of runs. The first and the last are proved in `report_laws`, over what is true of texts, of trees of JSON and of blocks
-- that are assembled.
use Rattle.std.specs.Prelude.{◌≡◌, ◌⊎◌, ℕ, ◌<◌, ◌^◌, ◌==◌, true, List, [], ◌∷◌, ◌++◌, length, codes, Option, Some, None, IsTrue}
use Rattle.std.specs.List.{list_any}
use Rattle.outside.specs.Image.{Image}
use Rattle.chain_defs.specs.Kept.{kept_limit}
use Rattle.verdict_defs.specs.Verdict.{joins}
use Rattle.verdict_defs.specs.Chain.{Chain, verdict_over}
use Rattle.pool_defs.specs.Laws.{breakable}
use Rattle.store_defs.specs.Store.{Store, Keeps, StandsFor}
use Rattle.report_defs.specs.declared.command.Command.{Command}
use Rattle.report_defs.specs.declared.command.Command.TheVariants.{Init, Import, Migrate, Query, Question, Standalone, Simulation}
use Rattle.report_defs.specs.declared.command.Simulation as simulations
use Rattle.report_defs.specs.declared.command.Simulation.TheVariants.{Make, Soak}
use Rattle.report_defs.specs.declared.command.Question.TheVariants.{Assemble}
use Rattle.report_defs.specs.declared.status.Status.TheVariants.{Done, SomeRefused}
use Rattle.report_defs.specs.Status.{IsOneOf}
use Rattle.report_defs.specs.Text.{hex_text, line_feed}
use Rattle.report_defs.specs.Assembly.{no_block_line}
use Rattle.report_defs.specs.Report.{Report, text_of, IsReport}
use Rattle.report_defs.specs.Simulation.{HashesDiffer}
use Rattle.report_defs.specs.Promise.{statuses_of}

-- whose report is pinned: all but that of a `soak` of blocks of which two hashes are equal
abbrev pub IsPinnedSimulation : simulations.Simulation → Type 0
IsPinnedSimulation (Make seed count) = Unit {0}
IsPinnedSimulation (Soak seed count) = HashesDiffer seed count

abbrev pub HasPinnedReport : Option Command → Type 0
HasPinnedReport None = Unit {0}
HasPinnedReport (Some Init) = Unit {0}
HasPinnedReport (Some (Import watched)) = Unit {0}
HasPinnedReport (Some (Migrate epoch)) = Unit {0}
HasPinnedReport (Some (Query query)) = Unit {0}
HasPinnedReport (Some (Question question)) = Unit {0}
HasPinnedReport (Some (Standalone command)) = Unit {0}
HasPinnedReport (Some (Simulation simulation)) = IsPinnedSimulation simulation

-- what such words ask for, an input and a store have at most one report
abbrev pub OneReport : Type 0
OneReport = (command : Option Command) (input : List ℕ) (store : Store) (one other : Report) → HasPinnedReport command
    → IsReport command input store one → IsReport command input store other → one ≡ other

-- and it has a status of the command
abbrev pub HasOwnStatus : Type 0
HasOwnStatus = (command : Option Command) (input : List ℕ) (store : Store) (said : Report) → IsReport command input store said → IsOneOf (statuses_of command) said.status

-- ---- `assemble`

-- a text ends in these bytes
abbrev pub EndsIn : List ℕ → List ℕ → Type 0
EndsIn ending text = (before : List ℕ) × (text ≡ before ++ ending)

-- The last line of a text holds bytes that would join over a chain.
pub record EndsInBlock (chain : Chain) (text : List ℕ) : Type 0 where
  pub bytes : List ℕ
  pub joined : joins (verdict_over chain bytes) ≡ true
  pub last : EndsIn (codes "block " ++ hex_text bytes ++ line_feed) text

-- Its last line says that there is no block, by a rule that a block which is assembled may break.
pub record EndsInNoBlock (text : List ℕ) : Type 0 where
  pub rule : ℕ
  pub breakable_by : IsTrue (list_any (λ other. other == rule) breakable)
  pub last : EndsIn (no_block_line rule) text

-- Law: over a chain that a store keeps, whose compact target has 32 bits, with room for a block, what `assemble` tells of an input that is read to its
-- end, ends in the bytes of a block that would join, or in `no block`.
abbrev pub WhatIsAssembledJoins : Type 0
WhatIsAssembledJoins = (chain : Chain) (image : Image) (input : List ℕ) (said : Report) → StandsFor chain image → chain.spec.compact_target < 2 ^ 32
    → length chain.blocks < kept_limit → IsReport (Some (Question Assemble)) input (Keeps chain) said → IsOneOf (Done ∷ SomeRefused ∷ []) said.status
    → EndsInBlock chain (text_of said) ⊎ EndsInNoBlock (text_of said)
