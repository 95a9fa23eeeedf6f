-- What an import of an item leaves, in four records: the verdict with the node after it, the moments, the log with the other areas, and the steps;
-- and what each of its two parts leaves, the decision on an item and the joining of a block.
use Rattle.std.specs.Prelude.{◌≡◌, ◌≢◌, ◌⊎◌, ℕ, ◌+◌, ◌-◌, ◌^◌, ◌<◌, ◌≤◌, true, false, List, [], ◌∷◌, ◌++◌, length, Option, Some, None, IfSome, IsSome, IsTrue, Result, Ok, Err, IfOk, IfErr}
use Rattle.outside.specs.Disk.{OthersRead, LeavesOnly}
use Rattle.outside.specs.Image.{Image}
use Rattle.outside.specs.declared.disk.ReadStop.{ReadStop}
use Rattle.outside.specs.declared.disk.ReadStop.TheVariants.{DiskFault}
use Rattle.chain_defs.specs.Shape.{decoded}
use Rattle.chain_defs.specs.Schema.{Block, block}
use Rattle.chain_defs.specs.Kept.{place_of}
use Rattle.chain_defs.specs.Tip.{tip_place}
use Rattle.chain_defs.specs.Ext.{Ext, ext_bytes, is_ext, count_at}
use Rattle.cell_state.specs.State.{StateValue, rows}
use Rattle.verdict_defs.specs.declared.verdict.Verdict.{Verdict}
use Rattle.verdict_defs.specs.Verdict.{joins}
use Rattle.verdict_defs.specs.Chain.{Chain, verdict_over, chain_after}
use Rattle.disk_defs.specs.Log.{Record}
use Rattle.disk_defs.specs.LogLaws.{HasFittingBody}
use Rattle.disk_defs.specs.Rest.{IsSettled}
use Rattle.store_defs.specs.Store.{StandsFor, HaveOwnExts}
use Rattle.log_file.specs.Pieces.{after_gate, block_record}
use Rattle.node_store.specs.declared.decision.Decision.{Decision}
use Rattle.node_store.specs.declared.decision.Decision.TheVariants.{Joins}
use Rattle.node_store.specs.declared.decision.Joining.{Joining}
use Rattle.node_store.specs.Held.{held_at}
use Rattle.node_store.specs.Judging.{IsReadyItem, IsDecided, place_for}
use Rattle.node_store.specs.Kept.{AreRowsOfFound, AreRowsOfTip}
use Rattle.node_store.specs.Node.{NodeValue, IsOwnDiskWhereTold, IsSoundNode, IsSoundWhereTold, IsOnlyImage, StandsOnDisk, IsLeftByImport, IsSettledAfter}
use Rattle.node_store.specs.Snapshot.{snapshot_at, OthersReadBut, HasSnapshot, LacksSnapshot}
use Rattle.node_store.specs.Steps.{moves_for, moves_with}

-- ---- An import

-- The verdict on an item over a node, and the node after it.
pub record IsImported (before after : NodeValue) (item : List ℕ) (answer : Verdict) (reads_old reads_new : Option Image) (old new : Image → Type 0) : Type 0 where
  pub own : IsOwnDiskWhereTold after reads_new new
  pub verdict : IsSoundWhereTold before reads_old → answer ≡ verdict_over before.chain item
  pub kept : IsSoundWhereTold before reads_old → after.chain ≡ chain_after before.chain item
  pub sound : IsSoundWhereTold before reads_old → IsSoundNode after
  pub on : StandsOnDisk before reads_old old → StandsOnDisk after reads_new new
  pub spec : after.chain.spec ≡ before.chain.spec
  pub holds : joins answer ≡ true → IsSome (held_at after.held (length before.chain.blocks))
  pub room : after.most ≡ before.most
  pub found : after.damages ≡ before.damages

-- What a crash leaves at each moment: the chain before the item or after it, where the node is sound; and the records of the log, with that of the
-- item or without, whatever they are.
pub record LeavesEither {S : Type 0} (reads_as : S → Option Image) (images : S → Image → Type 0) (moment : S → ℕ) (left_since : S → ℕ → Image → Type 0)
    (old new : S) (IsSound : Type 0) (node : NodeValue) (item : List ℕ) : Type 0 where
  pub moments : IsSound → IsOnlyImage node.chain (reads_as old) (images old)
      → LeavesOnly moment left_since old new (λ image. StandsFor node.chain image ⊎ StandsFor (chain_after node.chain item) image)
  pub keeps : (records : List Record) → IsSettled node.place records (reads_as old) (images old)
      → LeavesOnly moment left_since old new (IsLeftByImport node.place records item (images old))

-- What the disk then has. No area but LOG reads otherwise, and no area of a snapshot unless one is due, and then its own alone; where one is due, it is
-- there before the answer: that of the new tip. Without a fault the disk is as it was, but where memory was wanted for a snapshot: then the block's
-- record is there.
pub record IsLogged {C : Type 0} (node : NodeValue) (item : List ℕ) (result : Result (NodeValue × Verdict) ReadStop) (content_old content_new : C)
    (reads_old reads_new : Option Image) (old new : Image → Type 0) : Type 0 where
  pub settled : (records : List Record) → IsSettled node.place records reads_old old
      → IfOk result (λ answer. IsSettledAfter records item answer.1 answer.0.place reads_new new)
  pub others : OthersReadBut (snapshot_at (length node.chain.blocks)) reads_old reads_new
  pub snapshot : (number : ℕ) → IsSoundWhereTold node reads_old → joins (verdict_over node.chain item) ≡ true → snapshot_at (length node.chain.blocks) ≡ Some number
      → IfOk result (λ answer. IfSome reads_new (HasSnapshot answer.0.chain.blocks number))
  pub still : IsSoundWhereTold node reads_old → joins (verdict_over node.chain item) ≡ false → content_new ≡ content_old
  pub unwritten : IfOk result (λ answer. joins answer.1 ≡ false → content_new ≡ content_old)
  pub untouched : IfErr result (λ stop. stop ≢ DiskFault → (content_new ≡ content_old)
      ⊎ LacksSnapshot (length node.chain.blocks) node.place item stop reads_old reads_new old new)

-- No snapshot was begun: none is due, or the item stays out, or memory was out, or something is damaged.
abbrev pub BeginsNone : Option ℕ → Result (NodeValue × Verdict) ReadStop → Type 0
BeginsNone None result = Unit {0}
BeginsNone (Some number) (Ok answer) = joins answer.1 ≡ false
BeginsNone (Some number) (Err stop) = stop ≢ DiskFault

-- How many steps the live cells took: those that its verdict says, where there is one; one at most for a block on the tip, and one less where it stays
-- out.
pub record TakesSteps (node : NodeValue) (item : List ℕ) (result : Result (NodeValue × Verdict) ReadStop) (before after : ℕ) : Type 0 where
  pub exactly : IfOk result (λ answer. after ≡ before + moves_with node.chain item answer.1)
  pub steps : (b : Block) → decoded block item ≡ Some b → place_of node.chain.blocks b.header.parent_hash ≡ tip_place node.chain.blocks → after ≤ before + 1
  pub most : after ≤ before + moves_for node.chain item
  pub stays : IfOk result (λ answer. joins answer.1 ≡ false → after ≤ before + (moves_for node.chain item - 1))

-- ---- Its parts

-- An item was decided on over a node: only its live cells and what it holds in memory are others, and the cells stand where the decision says.
pub record IsDecidedOn (before after : NodeValue) (item : List ℕ) (decision : Decision) (reads_old reads_new : Option Image) (new : Image → Type 0) : Type 0 where
  pub same : after ≡ record before { cells = after.cells; held = after.held }
  pub own : IsOwnDiskWhereTold after reads_new new
  pub ready : IsReadyItem before.chain item decision
  pub cells : IsSoundWhereTold before reads_old → AreRowsOfFound before.chain.blocks (place_for before.chain.blocks decision) (rows after.cells)
  pub decided : IsSoundWhereTold before reads_old → IsDecided before.chain item decision

-- A block that could join has joined a node, whose live cells stood where it goes on from.
pub record HasJoined (before after : NodeValue) (item : List ℕ) (joining : Joining) (reads_old reads_new : Option Image) (old new : Image → Type 0) : Type 0 where
  pub own : IsOwnDiskWhereTold after reads_new new
  pub kept : IsDecided before.chain item (Joins joining) → after.chain ≡ chain_after before.chain item
  pub exts : IsDecided before.chain item (Joins joining) → HaveOwnExts before.chain before.exts → HaveOwnExts after.chain after.exts
  pub live : AreRowsOfFound before.chain.blocks (place_for before.chain.blocks (Joins joining)) (rows before.cells) → AreRowsOfTip after.chain.blocks (rows after.cells)
  pub image : IsDecided before.chain item (Joins joining) → IsOnlyImage before.chain reads_old old → IsOnlyImage after.chain reads_new new
  pub settled : (records : List Record) → IsSettled before.place records reads_old old
      → IsSettled after.place (records ++ block_record item (ext_bytes joining.ext) ∷ []) reads_new new
  pub spec : after.chain.spec ≡ before.chain.spec
  pub holds : IsSome (held_at after.held (length before.chain.blocks))
  pub room : after.most ≡ before.most
  pub found : after.damages ≡ before.damages

-- The record of an item with its ext is ready to be written: these are the bytes of the ext, and those of the record after its gate.
pub record IsFilled (item : List ℕ) (ext : Ext) (bytes body : List ℕ) : Type 0 where
  pub of_ext : bytes ≡ ext_bytes ext
  pub form : IsTrue (is_ext bytes)
  pub fees : count_at bytes 0 ≡ length ext.fees
  pub filled : body ≡ after_gate (block_record item (ext_bytes ext))
  pub short : length body < 2 ^ 33
  pub fits : HasFittingBody (block_record item bytes)
