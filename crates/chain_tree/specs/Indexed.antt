-- What a tree keeps beside its entries, so that it finds places fast.
use Rattle.std.specs.Prelude.{◌≡◌, ℕ, suc, ◌<◌, List, length, Option, Some, slice_get}
use Rattle.chain_tree.specs.declared.entry.Entry.{Entry}
use Rattle.chain_tree.specs.Entries.{place_of_hash, IsAncestor, IsTipEntry, IsTree}

-- An earlier place on the path of each place but the genesis'.
pub record AreJumps (entries : List Entry) (jumps : List ℕ) : Type 0 where
  pub each : length jumps ≡ length entries
  pub up : (place jump : ℕ) → slice_get jumps place ≡ Some jump → IsAncestor entries place jump
  pub earlier : (place jump : ℕ) → slice_get jumps (suc place) ≡ Some jump → jump < suc place

-- the jumps, the place of each hash, and the place of the tip
pub record IsIndexed (entries : List Entry) (jumps : List ℕ) (places : List ℕ → Option ℕ) (tip : ℕ) : Type 0 where
  pub tree : IsTree entries
  pub jumps_up : AreJumps entries jumps
  pub finds : (hash : List ℕ) → places hash ≡ place_of_hash entries hash
  pub top : IsTipEntry entries tip
