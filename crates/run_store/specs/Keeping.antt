-- What a call leaves of the node that a command asks.
use Rattle.std.specs.Prelude.{◌≡◌, Option}
use Rattle.outside.specs.Image.{Image}
use Rattle.node_store.specs.Node.{NodeValue, IsOwnDiskWhereTold}

-- The node is as it was, but for what it holds in memory and the damage that it found, and the disk is still its own.
pub record KeepsNode (before after : NodeValue) (reads : Option Image) (images : Image → Type 0) : Type 0 where
  pub own : IsOwnDiskWhereTold after reads images
  pub same : after ≡ record before { held = after.held; damages = after.damages }
