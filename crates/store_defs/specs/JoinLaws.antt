-- What a log takes of a chain, in words (docs/STORE.md, "The log").
use Rattle.std.specs.Prelude.{◌≡◌, ℕ, ◌^◌, ◌<◌, List, length, Some, IsTrue}
use Rattle.verdict_defs.specs.Chain.{Chain}
use Rattle.verdict_defs.specs.Laws.{CanJoin}
use Rattle.chain_defs.specs.Ext.{is_ext}
use Rattle.disk_defs.specs.Log.{Record, block_of_record, body_of_parts}
use Rattle.store_defs.specs.Store.{ext_over}

-- the record of an item that joins a chain, with its ext
abbrev pub record_over : Chain → List ℕ → Record
record_over chain item = record { kind = 3; body = body_of_parts item (ext_over chain item) }

-- Law: the record of an item that can join a chain, with an ext of the right form, is one of its block, which may stand after the kept ones.
abbrev pub TakesWhatJoins : Type 0
TakesWhatJoins = (chain : Chain) (item : List ℕ) (can : CanJoin chain.spec chain.blocks item) → length item < 2 ^ 31 → IsTrue (is_ext (ext_over chain item))
    → block_of_record chain.blocks (record_over chain item) ≡ Some can.block
