-- A log that is read from start to end.
use Rattle.std.specs.Prelude.{◌≡◌, ℕ, ◌+◌, Bool, false, List, length, take, drop, Option, Some, None}
use Rattle.chain_defs.specs.Schema.{Block}
use Rattle.disk_defs.specs.Log.{Record, record_bytes, record_at}
use Rattle.log_file.specs.Grammar.{IsMisplaced}

-- What contracts see of a `Reader`: the length of the log, the place that it has come to, and the bytes from there on that are
-- in memory.
pub record ReaderValue : Type 0 where
  pub len : ℕ
  pub at : ℕ
  pub ahead : List ℕ

-- It reads this log.
pub record IsReading (log : List ℕ) (reader : ReaderValue) : Type 0 where
  pub len : reader.len ≡ length log
  pub ahead : reader.ahead ≡ take (length reader.ahead) (drop reader.at log)

-- the place that a reader has come to, of a log of this length
pub record IsAt (size place : ℕ) (reader : ReaderValue) : Type 0 where
  pub len : reader.len ≡ size
  pub at : reader.at ≡ place

-- It has gone over one record, of which P holds.
pub record HasPassed (log : List ℕ) (P : Record → Type 0) (old new : ReaderValue) : Type 0 where
  pub r : Record
  pub there : record_at (drop old.at log) ≡ Some r
  pub is : P r
  pub at : IsAt old.len (old.at + length (record_bytes r)) new

-- The record that should stand at a place is missing, which is damage at this place, or is another than it should be, which is damage at its body.
abbrev pub IsOther : (Record → Bool) → ℕ → ℕ → Option Record → Type 0
IsOther test place damaged None = damaged ≡ place
IsOther test place damaged (Some r) = (test r ≡ false) × (damaged ≡ place + 6)

-- so it is where the reader is
abbrev pub IsOtherHere : List ℕ → (Record → Bool) → ReaderValue → ℕ → Type 0
IsOtherHere log test reader damaged = IsOther test reader.at damaged (record_at (drop reader.at log))

-- A record stands here that may not stand after these blocks and this edition: damage at its body.
pub record IsWrongHere (log : List ℕ) (kept : List Block) (edition : Option ℕ) (reader : ReaderValue) (damaged : ℕ) : Type 0 where
  pub r : Record
  pub there : record_at (drop reader.at log) ≡ Some r
  pub wrong : IsMisplaced kept edition r
  pub at : damaged ≡ reader.at + 6
