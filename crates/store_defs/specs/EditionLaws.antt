-- What an edition leaves as it was: every block before its first epoch (docs/STORE.md, "The edition"; docs/RULES.md, "The two editions").
use Rattle.std.specs.Prelude.{◌≡◌, ◌⊎◌, ℕ, ◌^◌, ◌<◌, ◌≤◌, List, [], ◌∷◌, ◌++◌, length, Option, Some, None}
use Rattle.outside.specs.declared.disk.Area.TheVariants.{Log}
use Rattle.outside.specs.Image.{Image, with_content}
use Rattle.chain_defs.specs.Schema.{Transaction, Block}
use Rattle.chain_defs.specs.Specification.{Specification, with_edition, is_second_at}
use Rattle.chain_defs.specs.Epochs.{epoch_number}
use Rattle.chain_defs.specs.Kept.{block_at}
use Rattle.chain_defs.specs.Branch.{branch}
use Rattle.chain_defs.specs.Tip.{tip}
use Rattle.verdict_defs.specs.Chain.{Chain}
use Rattle.verdict_defs.specs.Ext.{ext_of}
use Rattle.verdict_defs.specs.Rules.{all_rules}
use Rattle.verdict_defs.specs.Trial.{trial_on}
use Rattle.disk_defs.specs.Log.{Record, edition_record}
use Rattle.disk_defs.specs.Rest.{IsAtRest}
use Rattle.store_defs.specs.Store.{IsJoined, AreJoined, StandsFor}

-- With this edition or with its own, the blocks up to a height stand under the same rules.
abbrev pub AgreesUpTo : ℕ → Option ℕ → Specification → Type 0
AgreesUpTo height edition spec = (other : ℕ) → other ≤ height → is_second_at (with_edition edition spec) other ≡ is_second_at spec other

-- What is judged after a branch, up to whose height that is so, is judged alike: a block by each rule and with its ext, and a transaction that is tried
-- alone.
pub record AreJudgedAlike (spec : Specification) (edition : Option ℕ) : Type 0 where
  pub rules : (on : List Block) (b : Block) → AgreesUpTo (length on) edition spec → all_rules (with_edition edition spec) on b ≡ all_rules spec on b
  pub ext : (kept : List Block) (parent : ℕ) (b : Block) → AgreesUpTo (length (branch kept parent)) edition spec
      → ext_of (with_edition edition spec) kept parent b ≡ ext_of spec kept parent b
  pub trial : (on : List Block) (t : Transaction) → AgreesUpTo (length on) edition spec → trial_on (with_edition edition spec) on t ≡ trial_on spec on t

-- Law: each block is judged by its own epoch.
abbrev pub JudgesByItsEpoch : Type 0
JudgesByItsEpoch = (spec : Specification) (edition : Option ℕ) → AreJudgedAlike spec edition

-- Law: where there was none, an edition leaves the blocks up to a height that stands in an epoch before its first.
abbrev pub OldBlocksStay : Type 0
OldBlocksStay = (spec : Specification) (first height : ℕ) → spec.second_from ≡ None → epoch_number spec.epoch_length height < first
    → AgreesUpTo height (Some first) spec

-- the chain with an edition from this epoch on
abbrev pub edited_chain : Chain → ℕ → Chain
edited_chain chain epoch = record { spec = with_edition (Some epoch) chain.spec; blocks = chain.blocks }

-- Each block after the genesis stands in an epoch before this one.
abbrev pub AllStandBefore : ℕ → Chain → Type 0
AllStandBefore epoch chain = (place : ℕ) (b : Block) → 0 < place → block_at chain.blocks place ≡ Some b
    → epoch_number chain.spec.epoch_length b.header.number < epoch

-- A chain may have an edition from this epoch on: its tip is the genesis, or stands in an epoch before it.
abbrev pub TipStandsBefore : ℕ → Chain → Block → Type 0
TipStandsBefore epoch chain top = (top.header.number ≡ 0) ⊎ (epoch_number chain.spec.epoch_length top.header.number < epoch)

-- Law: then so do all blocks.
abbrev pub TheTipTells : Type 0
TheTipTells = (chain : Chain) (epoch : ℕ) (top : Block) → IsJoined chain → tip chain.blocks ≡ Some top → TipStandsBefore epoch chain top
    → AllStandBefore epoch chain

-- Law: what has joined has joined with an edition from a later epoch on.
abbrev pub StaysJoined : Type 0
StaysJoined = (chain : Chain) (exts : List (List ℕ)) (epoch : ℕ) → AreJoined chain exts → chain.spec.second_from ≡ None → AllStandBefore epoch chain
    → AreJoined (edited_chain chain epoch) exts

-- Law: with the record of such an edition after the others an image stands for the chain with it.
abbrev pub StandsAfterAnEdition : Type 0
StandsAfterAnEdition = (chain : Chain) (epoch : ℕ) (image : Image) (bytes : List ℕ) (place next : ℕ) (records : List Record) → StandsFor chain image
    → chain.spec.second_from ≡ None → AllStandBefore epoch chain → epoch < 2 ^ 64 → IsAtRest place records image.log
    → IsAtRest next (records ++ edition_record epoch ∷ []) bytes → StandsFor (edited_chain chain epoch) (with_content Log bytes image)
