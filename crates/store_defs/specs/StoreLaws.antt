-- What an image stands for, by what its log says (docs/STORE.md, "Sound").
use Rattle.std.specs.Prelude.{◌≡◌, ℕ, ◌^◌, ◌<◌, List, [], ◌∷◌, ◌++◌, length, None, IsTrue}
use Rattle.outside.specs.declared.disk.Area.TheVariants.{Log}
use Rattle.outside.specs.Image.{Image, with_content}
use Rattle.chain_defs.specs.Specification.{broken_specification_rule}
use Rattle.verdict_defs.specs.Chain.{Chain, chain_of_genesis, chain_after}
use Rattle.verdict_defs.specs.Laws.{CanJoin}
use Rattle.chain_defs.specs.Ext.{is_ext}
use Rattle.rule_defs.specs.Genesis.{broken_genesis_rule}
use Rattle.disk_defs.specs.Log.{Record, log_of}
use Rattle.store_defs.specs.JoinLaws.{record_over}
use Rattle.disk_defs.specs.Rest.{IsAtRest}
use Rattle.store_defs.specs.Store.{ext_over, IsJoined, StandsFor}

-- Law: an image stands for a chain as long as its log says the same.
abbrev pub StandsAsItSays : Type 0
StandsAsItSays = (chain : Chain) (image : Image) (bytes : List ℕ) → StandsFor chain image → log_of bytes ≡ log_of image.log
    → StandsFor chain (with_content Log bytes image)

-- Law: with the record of an item that joins after the others it stands for the chain after that item.
abbrev pub StandsAfterAnItem : Type 0
StandsAfterAnItem = (chain : Chain) (item : List ℕ) (image : Image) (bytes : List ℕ) (place next : ℕ) (records : List Record)
    → StandsFor chain image → CanJoin chain.spec chain.blocks item → length item < 2 ^ 31 → IsTrue (is_ext (ext_over chain item))
    → IsAtRest place records image.log → IsAtRest next (records ++ record_over chain item ∷ []) bytes
    → StandsFor (chain_after chain item) (with_content Log bytes image)

-- Law: a log of a specification and a genesis that keep their rules, with no block after them and no snapshot beside it, stands for their chain.
abbrev pub StandsForTheGenesis : Type 0
StandsForTheGenesis = (specification genesis : List ℕ) (image : Image) (place : ℕ)
    → broken_specification_rule specification ≡ None → broken_genesis_rule genesis ≡ None
    → IsAtRest place (record { kind = 1; body = specification } ∷ record { kind = 2; body = genesis } ∷ []) image.log
    → image.snap_a ≡ [] → image.snap_b ≡ [] → StandsFor (chain_of_genesis specification genesis) image

-- Law: a chain for which an image stands has joined, and so has the chain after any item.
abbrev pub StandsForWhatJoined : Type 0
StandsForWhatJoined = ((chain : Chain) (image : Image) → StandsFor chain image → IsJoined chain)
    × ((chain : Chain) (item : List ℕ) → IsJoined chain → IsJoined (chain_after chain item))
