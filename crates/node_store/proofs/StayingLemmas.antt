-- A node and its disk while an item is judged, which only looks at them, and after it.
use Rattle.std.proofs.Common.{◌≡◌, ◌⊎◌, inl, ℕ, List, [], Option, Some, None, Result, Err, refl, sym, ap, ◌∙◌, subst}
use Rattle.std.specs.Prelude.{IfSome, IsSome}
use Rattle.std.proofs.lemmas.Option.{same_Some}
use Rattle.outside.specs.Causes.{CountsFault}
use Rattle.outside.specs.declared.disk.ReadStop.{ReadStop}
use Rattle.outside.specs.declared.disk.Area.TheVariants.{Log}
use Rattle.outside.specs.Image.{Image}
use Rattle.outside.specs.Disk.{SameImages, OthersRead, LeavesOnly, IsAsBefore}
use Rattle.outside.proofs.Moments.{leaves_also, leaves_then}
use Rattle.cell_state.specs.State.{StateValue, rows}
use Rattle.verdict_defs.specs.Chain.{Chain, chain_after}
use Rattle.disk_defs.specs.Log.{Record}
use Rattle.disk_defs.specs.Rest.{IsSettled}
use Rattle.log_file.proofs.Exits.{same_stop}
use Rattle.log_file.proofs.Settling.{others_kept, others_on}
use Rattle.store_defs.specs.Store.{StandsFor, IsJoined, HaveOwnExts}
use Rattle.store_defs.proofs.JoinedLemmas.{joined_after}
use Rattle.node_store.specs.Held.{CacheValue}
use Rattle.node_store.specs.Kept.{KeptValue, AreRowsOfTip}
use Rattle.node_store.specs.Import.{LeavesEither}
use Rattle.node_store.specs.Node.{NodeValue, node_of, LogHoldsKept, IsOwnDisk, IsOwnDiskWhereTold, IsSoundNode, IsSoundWhereTold, IsOnlyImage, StandsOnDisk, IsLeftByImport}
use Rattle.node_store.proofs.KeepingLemmas.{left_there}

-- ---- A disk that reads as it did, with the same images

module _ (before after : Option Image) (old new : Image → Type 0) (same : after ≡ before) (images : SameImages old new) where
  settled-same : (place : ℕ) (records : List Record) → IsSettled place records before old → IsSettled place records after new
  settled-same place records settled = record {
    now = settled.now;
    told = same ∙ settled.told;
    rest = settled.rest;
    durable = λ image left. settled.durable image ((images image).0 left);
  }

  only-same : (chain : Chain) → IsOnlyImage chain before old → IsOnlyImage chain after new
  only-same chain only = record {
    now = only.now;
    told = same ∙ only.told;
    one = λ image left. only.one image ((images image).0 left);
    stands = only.stands;
  }

  -- it stays a node's own, whatever its live cells are, with what is held in memory
  of-same : (kept : KeptValue) (place : ℕ) (cells next : StateValue) (cache later : CacheValue) → IsOwnDisk (node_of kept place cells cache) before old
      → IfSome after (LogHoldsKept kept later.held) → IsOwnDisk (node_of kept place next later) after new
  of-same kept place cells next cache later of read =
      let here : LogHoldsKept kept later.held of.now = subst (λ (o : Option Image). IfSome o (LogHoldsKept kept later.held)) (same ∙ of.told) read in
      record {
        now = of.now;
        told = same ∙ of.told;
        read = record { specification = of.read.specification; records = of.read.records; keeps = of.read.keeps; edition = of.read.edition; names = of.read.names; can = of.read.can; agrees = here.agrees };
        settled = settled-same place _ of.settled;
      }

own-same : (before after : Option Image) (old new : Image → Type 0) → after ≡ before → SameImages old new
    → (kept : KeptValue) (place : ℕ) (cells next : StateValue) (cache later : CacheValue) → IsOwnDiskWhereTold (node_of kept place cells cache) before old
    → IfSome after (LogHoldsKept kept later.held) → IsOwnDiskWhereTold (node_of kept place next later) after new
own-same None after old new same images kept place cells next cache later own read =
    subst (λ (reads : Option Image). IfSome reads (λ _. IsOwnDisk (node_of kept place next later) after new)) (sym same) tt
own-same (Some image) after old new same images kept place cells next cache later own read =
    subst (λ (reads : Option Image). IfSome reads (λ _. IsOwnDisk (node_of kept place next later) after new)) (sym same)
    (of-same (Some image) after old new same images kept place cells next cache later own read)

-- ---- Why a call was stopped

pub not_stopped : (stop : ReadStop) → ◌≡◌ {A = Option ReadStop} None (Some stop) → ⊥
not_stopped stop is = absurd (cc)

-- a stop that is handed on is counted as it was
pub stopped-counts : {T : Type 0} (before now : ℕ) (stop fault : ReadStop) → CountsFault before now (◌≡◌ {A = Option ReadStop} (Some stop) (Some fault))
    → CountsFault before now (◌≡◌ {A = Result T ReadStop} (Err stop) (Err fault))
stopped-counts before now stop fault counts = record {
  later = counts.later;
  rose = λ is. counts.rose (ap Some (same_stop stop fault is));
  unchanged = λ other. counts.unchanged (λ is. other (ap Err (same_Some stop fault is)));
}

-- ---- The disk of a node

-- where it tells what it reads as
pub of-told : (node : NodeValue) (chain : Chain) (reads : Option Image) (images : Image → Type 0) → IsOnlyImage chain reads images → IsOwnDiskWhereTold node reads images
    → IsOwnDisk node reads images
of-told node chain reads images only own = subst (λ (o : Option Image). IfSome o (λ _. IsOwnDisk node reads images)) only.told own

pub sound-on : (node : NodeValue) (reads : Option Image) (images : Image → Type 0) → StandsOnDisk node reads images → IsSoundWhereTold node reads
sound-on node reads images on = record { sound = on.sound; told = subst IsSome (sym on.image.told) refl }

-- what a crash leaves of a node that is on its disk, while an item is imported
pub moments-on : {S : Type 0} {reads_as : S → Option Image} {images : S → Image → Type 0} {moment : S → ℕ} {left_since : S → ℕ → Image → Type 0} {old new : S}
    (node : NodeValue) (item : List ℕ) → LeavesEither reads_as images moment left_since old new (IsSoundWhereTold node (reads_as old)) node item
    → StandsOnDisk node (reads_as old) (images old)
    → LeavesOnly moment left_since old new (λ image. StandsFor node.chain image ⊎ StandsFor (chain_after node.chain item) image)
moments-on {reads_as = reads_as} {images = images} {old = old} node item left on = left.moments (sound-on node (reads_as old) (images old) on) on.image

-- a node with one more block
pub sound-joined : (chain : Chain) (item : List ℕ) (next : NodeValue) → next.chain ≡ chain_after chain item → IsJoined chain → HaveOwnExts next.chain next.exts
    → AreRowsOfTip next.chain.blocks (rows next.cells) → IsSoundNode next
sound-joined chain item next after joined own live = record {
  joined = record { joined = subst IsJoined (sym after) (joined_after chain item joined); own = own };
  live = live;
}

-- ---- After a call that only looked

module _ {S C : Type 0} (content_of : S → C) (reads_as : S → Option Image) (images : S → Image → Type 0) (moment : S → ℕ) (left_since : S → ℕ → Image → Type 0)
    (rests : (old new : S) → content_of new ≡ content_of old → IsAsBefore reads_as images moment left_since old new)
    (old mid : S) (looked : content_of mid ≡ content_of old) where
  as-before : IsAsBefore reads_as images moment left_since old mid
  as-before = rests old mid looked

  pub settled-looked : (place : ℕ) (records : List Record) → IsSettled place records (reads_as old) (images old) → IsSettled place records (reads_as mid) (images mid)
  settled-looked = settled-same (reads_as old) (reads_as mid) (images old) (images mid) as-before.reads as-before.images

  pub only-looked : (chain : Chain) → IsOnlyImage chain (reads_as old) (images old) → IsOnlyImage chain (reads_as mid) (images mid)
  only-looked = only-same (reads_as old) (reads_as mid) (images old) (images mid) as-before.reads as-before.images

  pub own-looked : (kept : KeptValue) (place : ℕ) (cells next : StateValue) (cache later : CacheValue)
      → IsOwnDiskWhereTold (node_of kept place cells cache) (reads_as old) (images old) → IfSome (reads_as mid) (LogHoldsKept kept later.held)
      → IsOwnDiskWhereTold (node_of kept place next later) (reads_as mid) (images mid)
  own-looked = own-same (reads_as old) (reads_as mid) (images old) (images mid) as-before.reads as-before.images

  pub on-looked : (kept : KeptValue) (place : ℕ) (cells next : StateValue) (cache later : CacheValue)
      → StandsOnDisk (node_of kept place cells cache) (reads_as old) (images old) → IfSome (reads_as mid) (LogHoldsKept kept later.held) → AreRowsOfTip kept.chain.blocks (rows next)
      → StandsOnDisk (node_of kept place next later) (reads_as mid) (images mid)
  on-looked kept place cells next cache later on read live = record {
    image = only-looked kept.chain on.image;
    of = of-same (reads_as old) (reads_as mid) (images old) (images mid) as-before.reads as-before.images kept place cells next cache later on.of read;
    sound = record { joined = on.sound.joined; live = live };
  }

  pub others-looked : OthersRead Log (reads_as old) (reads_as mid)
  others-looked = others_kept (reads_as old) (reads_as mid) as-before.reads

  -- what a crash leaves
  pub moments-looked : (chain : Chain) (item : List ℕ) → IsOnlyImage chain (reads_as old) (images old)
      → LeavesOnly moment left_since old mid (λ image. StandsFor chain image ⊎ StandsFor (chain_after chain item) image)
  moments-looked chain item only =
      leaves_also moment left_since old mid (images old) (λ image. StandsFor chain image ⊎ StandsFor (chain_after chain item) image) as-before.moments
      (λ image left. inl (subst (StandsFor chain) (sym (only.one image left)) only.stands))

  pub keeps-looked : (place : ℕ) (records : List Record) (item : List ℕ) → IsSettled place records (reads_as old) (images old)
      → LeavesOnly moment left_since old mid (IsLeftByImport place records item (images old))
  keeps-looked place records item settled =
      leaves_also moment left_since old mid (images old) (IsLeftByImport place records item (images old)) as-before.moments
      (left_there place records item [] (reads_as old) (images old) settled)

  -- and another after it
  module _ (new : S) where
    pub others-then : OthersRead Log (reads_as mid) (reads_as new) → OthersRead Log (reads_as old) (reads_as new)
    others-then others = others_on (reads_as old) (reads_as mid) (reads_as new) as-before.reads others

    pub moments-then : (chain : Chain) (item : List ℕ) → IsOnlyImage chain (reads_as old) (images old)
        → LeavesOnly moment left_since mid new (λ image. StandsFor chain image ⊎ StandsFor (chain_after chain item) image)
        → LeavesOnly moment left_since old new (λ image. StandsFor chain image ⊎ StandsFor (chain_after chain item) image)
    moments-then chain item only later =
        leaves_then moment left_since old mid new (λ image. StandsFor chain image ⊎ StandsFor (chain_after chain item) image) (moments-looked chain item only) later

    pub keeps-then : (place : ℕ) (records : List Record) (item : List ℕ) → IsSettled place records (reads_as old) (images old)
        → LeavesOnly moment left_since mid new (IsLeftByImport place records item (images mid))
        → LeavesOnly moment left_since old new (IsLeftByImport place records item (images old))
    keeps-then place records item settled later =
        leaves_then moment left_since old mid new (IsLeftByImport place records item (images old)) (keeps-looked place records item settled)
        (leaves_also moment left_since mid new (IsLeftByImport place records item (images mid)) (IsLeftByImport place records item (images old)) later
        (λ image (ext, (before, left, step)). (ext, (before, (as-before.images before).0 left, step))))
