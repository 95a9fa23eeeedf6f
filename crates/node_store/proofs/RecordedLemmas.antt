-- A node on its own disk while that is read.
use Rattle.std.proofs.Common.{◌≡◌, ℕ, Option, Some, None, sym, ap, ◌∙◌, subst}
use Rattle.std.specs.Prelude.{IfSome}
use Rattle.outside.specs.Disk.{SameImages, IsAsBefore}
use Rattle.outside.specs.Image.{Image}
use Rattle.outside.specs.declared.disk.ReadStop.{ReadStop}
use Rattle.std.proofs.lemmas.Option.{same_Some}
use Rattle.chain_tree.proofs.ReadLemmas.{finds_after}
use Rattle.cell_state.specs.State.{StateValue}
use Rattle.node_store.specs.Held.{CacheValue}
use Rattle.node_store.specs.Kept.{KeptValue}
use Rattle.node_store.specs.Node.{NodeValue, kept_in, node_of, LogHoldsKept, IsOwnDiskWhereTold, HasOnlyRead, LeavesAll}

-- ---- A node on its own disk

-- images of the same areas
pub same_image : (image now : Image) → image.log ≡ now.log → image.snap_a ≡ now.snap_a → image.snap_b ≡ now.snap_b → image ≡ now
same_image image now log snap_a snap_b = λ i. record { log = log i; snap_a = snap_a i; snap_b = snap_b i }

-- LOG has what it keeps
read-own : (node : NodeValue) (reads : Option Image) (images : Image → Type 0) → IsOwnDiskWhereTold node reads images → IfSome reads (LogHoldsKept (kept_in node) node.held)
read-own node None images own = tt
read-own node (Some image) images own = subst (LogHoldsKept (kept_in node) node.held) (same_Some own.now image (sym own.told)) own.read

pub read-here : (kept : KeptValue) (place : ℕ) (cells : StateValue) (cache : CacheValue) (node : NodeValue) (reads : Option Image) (images : Image → Type 0)
    → node_of kept place cells cache ≡ node → IsOwnDiskWhereTold node reads images → IfSome reads (LogHoldsKept kept cache.held)
read-here kept place cells cache node reads images whole own =
    read-own (node_of kept place cells cache) reads images (subst (λ (it : NodeValue). IsOwnDiskWhereTold it reads images) (sym whole) own)

-- and the disk stays its own while it is read
own-later : (node : NodeValue) (later : CacheValue) (before after : Option Image) (old new : Image → Type 0) → after ≡ before → SameImages old new
    → IsOwnDiskWhereTold node before old → IfSome after (LogHoldsKept (kept_in node) later.held) → IsOwnDiskWhereTold (record node { held = later.held; most = later.most; damages = later.damages }) after new
own-later node later None after old new same images own read =
    subst (λ (reads : Option Image). IsOwnDiskWhereTold (record node { held = later.held; most = later.most; damages = later.damages }) reads new) (sym same) tt
own-later node later (Some image) after old new same images own read =
    let now : LogHoldsKept (kept_in node) later.held image = subst (λ (reads : Option Image). IfSome reads (LogHoldsKept (kept_in node) later.held)) same read in
    subst (λ (reads : Option Image). IsOwnDiskWhereTold (record node { held = later.held; most = later.most; damages = later.damages }) reads new) (sym same) (record {
      now = own.now;
      told = own.told;
      read = record { specification = own.read.specification; records = own.read.records; keeps = own.read.keeps; edition = own.read.edition; names = own.read.names; can = own.read.can; agrees = now.agrees };
      settled = record {
        now = own.settled.now;
        told = own.settled.told;
        rest = own.settled.rest;
        durable = λ one left. own.settled.durable one ((images one).0 left);
      };
    })

-- ---- What a call leaves that only reads

module _ {S C : Type 0} (content_of : S → C) (reads_as : S → Option Image) (images : S → Image → Type 0) (moment : S → ℕ) (left_since : S → ℕ → Image → Type 0)
    (faults : S → ℕ) (rests : (old new : S) → content_of new ≡ content_of old → IsAsBefore reads_as images moment left_since old new) where
  pub leaves-all : (old new : S) (kept : KeptValue) (place : ℕ) (cells : StateValue) (cache later : CacheValue) (before : NodeValue) (stop : Option ReadStop)
      → node_of kept place cells cache ≡ before → IsOwnDiskWhereTold before (reads_as old) (images old) → HasOnlyRead content_of reads_as faults old new kept cache later stop
      → LeavesAll content_of reads_as images faults old new before (node_of kept place cells later) stop
  leaves-all old new kept place cells cache later before stop whole own looked =
      let as_before = rests old new looked.content in
      record {
        content = looked.content;
        node = (λ i. record (node_of kept place cells later) { most = looked.most i }) ∙ ap (λ (node : NodeValue). record node { held = later.held; damages = later.damages }) whole;
        own = own-later (node_of kept place cells cache) later (reads_as old) (reads_as new) (images old) (images new) as_before.reads as_before.images
            (subst (λ (node : NodeValue). IsOwnDiskWhereTold node (reads_as old) (images old)) (sym whole) own) looked.agrees;
        damage = looked.damage;
        cause = looked.cause;
        found = finds_after (ap (λ (node : NodeValue). node.damages) whole) looked.found;
      }
