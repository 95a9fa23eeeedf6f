-- A header by its fields.
use Rattle.std.specs.Prelude.{ℕ, List}
use Rattle.chain_defs.specs.Schema.{Header}
use Rattle.pool_rows.specs.declared.header.Commitments.{Commitments}

-- the header of version 0 and nonce 0 with these fields
abbrev pub header_with : ℕ → ℕ → ℕ → ℕ → List ℕ → Commitments → Header
header_with compact_target timestamp number epoch parent_hash commitments = record {
  version = 0;
  compact_target = compact_target;
  timestamp = timestamp;
  number = number;
  epoch = epoch;
  parent_hash = parent_hash;
  transactions_root = commitments.transactions_root;
  proposals_hash = commitments.proposals_hash;
  uncles_hash = commitments.uncles_hash;
  dao = commitments.dao;
  nonce = 0;
}
