-- What calls leave of a node, one after another.
use Rattle.std.proofs.Common.{◌≡◌, ℕ, refl, sym, ◌∙◌, subst}
use Rattle.std.specs.Prelude.{Option}
use Rattle.outside.specs.Image.{Image}
use Rattle.outside.specs.declared.disk.ReadStop.{ReadStop}
use Rattle.node_store.specs.Node.{NodeValue, IsOwnDiskWhereTold, IsSoundNode, LeavesAll}
use Rattle.run_store.specs.Keeping.{KeepsNode}

-- nothing was asked of it
pub keeps_all : (node : NodeValue) (reads : Option Image) (images : Image → Type 0) → IsOwnDiskWhereTold node reads images → KeepsNode node node reads images
keeps_all node reads images own = record { own = own; same = refl }

-- it was asked, and answered or was stopped
pub keeps_left : {S C : Type 0} {content_of : S → C} {reads_as : S → Option Image} {images : S → Image → Type 0} {faults : S → ℕ} {old new : S}
    {before after : NodeValue} {stop : Option ReadStop} → LeavesAll content_of reads_as images faults old new before after stop
    → KeepsNode before after (reads_as new) (images new)
keeps_left left = record { own = left.own; same = left.node }

-- it is as sound as before
pub keeps_sound : (before after : NodeValue) (reads : Option Image) (images : Image → Type 0) → KeepsNode before after reads images → IsSoundNode before → IsSoundNode after
keeps_sound before after reads images keeps sound =
    subst IsSoundNode (sym keeps.same) (record { joined = sound.joined; live = sound.live })

-- two calls
pub keeps_then : (before mid after : NodeValue) (reads late : Option Image) (images at_end : Image → Type 0) → KeepsNode before mid reads images
    → KeepsNode mid after late at_end → KeepsNode before after late at_end
keeps_then before mid after reads late images at_end first second = record {
  own = second.own;
  same = second.same ∙ subst (λ (node : NodeValue). record mid { held = after.held; damages = after.damages } ≡ record node { held = after.held; damages = after.damages }) first.same refl;
}
