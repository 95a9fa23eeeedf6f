-- Which exts bytes hold, and that they hold one (docs/STORE.md, "The ext").
use Rattle.std.specs.Prelude.{◌≡◌, ◌^◌, ◌<◌, length, IfSome}
use Rattle.std.specs.List.{All}
use Rattle.chain_defs.specs.Schema.{OutPoint}
use Rattle.chain_defs.specs.Row.{Row}
use Rattle.chain_defs.specs.Ext.{Ext, row_bytes, ext_bytes}

-- A row with its out-point fits its bytes: its hashes have 32, and its numbers are a u32 or a u64.
pub record FitsRow (it : OutPoint × Row) : Type 0 where
  pub tx_hash : length it.0.tx_hash ≡ 32
  pub index : it.0.index < 2 ^ 32
  pub block : it.1.block < 2 ^ 32
  pub transaction : it.1.transaction < 2 ^ 32
  pub capacity : it.1.capacity < 2 ^ 64
  pub occupied : it.1.occupied < 2 ^ 64
  pub lock_hash : length it.1.lock_hash ≡ 32
  pub type_hash : IfSome it.1.type_hash (λ hash. length hash ≡ 32)
  pub data_hash : length it.1.data_hash ≡ 32
  pub data_len : it.1.data_len < 2 ^ 32

-- An ext fits its bytes: each of its rows does, each fee is a u64, and of both the count is a u32.
pub record FitsExt (ext : Ext) : Type 0 where
  pub few_fees : length ext.fees < 2 ^ 32
  pub fees : All (λ fee. fee < 2 ^ 64) ext.fees
  pub few_rows : length ext.spent < 2 ^ 32
  pub rows : All FitsRow ext.spent

-- Law: of rows that fit, no two have the same bytes.
abbrev pub BytesDetermineRows : Type 0
BytesDetermineRows = (one other : OutPoint × Row) → FitsRow one → FitsRow other → row_bytes one ≡ row_bytes other → one ≡ other

-- Law: of exts that fit, no two have the same bytes.
abbrev pub BytesDetermineExts : Type 0
BytesDetermineExts = (one other : Ext) → FitsExt one → FitsExt other → ext_bytes one ≡ ext_bytes other → one ≡ other
