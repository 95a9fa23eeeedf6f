-- A node that is sound on its disk, and a disk that is as it was.
use Rattle.std.proofs.Common.{◌≡◌, ℕ, ap, ◌∙◌}
use Rattle.std.specs.Prelude.{Option, Some, is_some, IsSome, IfSome}
use Rattle.outside.specs.Image.{Image}
use Rattle.outside.specs.Disk.{IsAsBefore, IsOnlyRead, IsKnownAsBefore}
use Rattle.outside.proofs.Moments.{leaves_also, leaves_then}
use Rattle.store_defs.specs.Store.{Store, Keeps, store_of, IsSound}
use Rattle.report_defs.specs.Promise.{IsSoundStoreOf}
use Rattle.node_store.specs.Node.{NodeValue, IsSoundNode, IsSoundWhereTold, StandsOnDisk}
use Rattle.run_text.proofs.StoreLemmas.{opened_store}

-- ---- A node that is sound

-- what was known of a disk is known still
tells_too : (before after : Option Image) → IsKnownAsBefore before after → IsSome before → IsSome after
tells_too before after as_before told = as_before ∙ told

told_some : (reads : Option Image) (now : Image) → reads ≡ Some now → IsSome reads
told_some reads now told = ap is_some told

-- a node is sound on a disk that tells as before
pub sound_after : (node : NodeValue) (before after : Option Image) → IsSome before → IsKnownAsBefore before after → IsSoundNode node → IsSoundWhereTold node after
sound_after node before after told as_before sound = record { sound = sound; told = tells_too before after as_before told }

-- and one that was opened
pub opened_sound : (node : NodeValue) (before after : Option Image) (now : Image) → IsKnownAsBefore before after → (IsSound now → IsSoundNode node) → before ≡ Some now
    → IsSound now → IsSoundWhereTold node after
opened_sound node before after now as_before sound told is = sound_after node before after (told_some before now told) as_before (sound is)

-- of a sound store that a command finds
pub found_sound : (node : NodeValue) (before after : Option Image) (store : Store) → IfSome before (λ now. store_of now ≡ Keeps node.chain) → IsKnownAsBefore before after
    → ((now : Image) → before ≡ Some now → IsSound now → IsSoundNode node) → IsSoundStoreOf before store → IsSoundWhereTold node after
found_sound node before after store kept as_before sound found =
    opened_sound node before after found.0 as_before (sound found.0 found.1) found.1 (node.chain, found.3 node.chain (opened_store before node.chain store kept found))

-- and one that is on its disk
pub sound_on : (node : NodeValue) (reads : Option Image) (images : Image → Type 0) → StandsOnDisk node reads images → IsSoundWhereTold node reads
sound_on node reads images on = record { sound = on.sound; told = told_some reads on.image.now on.image.told }

-- ---- A disk that is as it was

module _ {D : Type 0} (reads_as : D → Option Image) (images : D → Image → Type 0) (moment : D → ℕ) (left_since : D → ℕ → Image → Type 0) where
  -- a disk that was only read, and then is as it was
  pub only_read_then : (old mid new : D) → IsOnlyRead reads_as images moment left_since old mid → IsAsBefore reads_as images moment left_since mid new
      → IsOnlyRead reads_as images moment left_since old new
  only_read_then old mid new first second = record {
    reads = second.reads ∙ first.reads;
    images = λ image left. first.images image ((second.images image).0 left);
    moments = leaves_then moment left_since old mid new (images old) first.moments
        (leaves_also moment left_since mid new (images mid) (images old) second.moments first.images);
  }
