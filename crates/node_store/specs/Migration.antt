-- What giving a store an edition of the rules leaves (docs/STORE.md, "The edition").
use Rattle.std.specs.Prelude.{◌≡◌, ◌⊎◌, ℕ, List, [], ◌∷◌, ◌++◌, Option, if◌then◌else◌}
use Rattle.outside.specs.Disk.{LeavesOnly}
use Rattle.outside.specs.Image.{Image}
use Rattle.disk_defs.specs.Log.{Record, edition_record}
use Rattle.disk_defs.specs.Rest.{IsSettled, HasAppended}
use Rattle.store_defs.specs.Store.{StandsFor}
use Rattle.store_defs.specs.EditionLaws.{AllStandBefore, edited_chain}
use Rattle.store_defs.specs.declared.moved.Moved.{Moved}
use Rattle.store_defs.specs.Migration.{migration, is_done, chain_moved}
use Rattle.node_store.specs.Kept.{KeptValue}
use Rattle.node_store.specs.Node.{NodeValue, IsOwnDiskWhereTold, IsSoundNode, IsSoundWhereTold, IsOnlyImage, StandsOnDisk}

-- the records after it
abbrev pub records_moved : List Record → ℕ → Moved → List Record
records_moved records epoch moved = if is_done moved then records ++ edition_record epoch ∷ [] else records

-- what is kept, with an edition
abbrev pub kept_edited : KeptValue → ℕ → KeptValue
kept_edited kept epoch = record { chain = edited_chain kept.chain epoch; exts = kept.exts; entries = kept.entries }

-- A node whose store got an edition: the record stands after the others, and nothing else is another.
pub record IsEdited (before after : NodeValue) (epoch : ℕ) (reads_old reads_new : Option Image) (old new : Image → Type 0) : Type 0 where
  pub same : after ≡ record before { chain = edited_chain before.chain epoch; place = after.place }
  pub own : IsOwnDiskWhereTold after reads_new new
  pub settled : (records : List Record) → IsSettled before.place records reads_old old
      → IsSettled after.place (records ++ edition_record epoch ∷ []) reads_new new
  pub image : AllStandBefore epoch before.chain → IsOnlyImage before.chain reads_old old → IsOnlyImage after.chain reads_new new

-- What was answered, and the node after it: where it is done its chain has the edition and its log the record, and else both are as they were. A node
-- that was sound or on its disk is so after it.
pub record IsMigrated (before after : NodeValue) (epoch : ℕ) (moved : Moved) (reads_old reads_new : Option Image) (old new : Image → Type 0) : Type 0 where
  pub answer : moved ≡ migration before.chain epoch
  pub same : after ≡ record before { chain = chain_moved before.chain epoch moved; place = after.place }
  pub own : IsOwnDiskWhereTold after reads_new new
  pub settled : (records : List Record) → IsSettled before.place records reads_old old
      → IsSettled after.place (records_moved records epoch moved) reads_new new
  pub sound : IsSoundWhereTold before reads_old → IsSoundNode after
  pub on : StandsOnDisk before reads_old old → StandsOnDisk after reads_new new

-- What a crash leaves at each moment: the chain as it was or as it is after it, where the node is sound; and the records of the log, with that of the
-- edition or without, whatever they are.
pub record LeavesMigration {S : Type 0} (reads_as : S → Option Image) (images : S → Image → Type 0) (moment : S → ℕ) (left_since : S → ℕ → Image → Type 0)
    (old new : S) (node : NodeValue) (epoch : ℕ) : Type 0 where
  pub moments : IsSoundNode node → IsOnlyImage node.chain (reads_as old) (images old) → LeavesOnly moment left_since old new
      (λ image. StandsFor node.chain image ⊎ StandsFor (chain_moved node.chain epoch (migration node.chain epoch)) image)
  pub keeps : (records : List Record) → IsSettled node.place records (reads_as old) (images old)
      → LeavesOnly moment left_since old new (HasAppended node.place records (edition_record epoch) (images old))
