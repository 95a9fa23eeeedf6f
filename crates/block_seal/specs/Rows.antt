-- The header of a block with other commitments.
use Rattle.chain_defs.specs.Schema.{Header}
use Rattle.pool_rows.specs.declared.header.Commitments.{Commitments}

abbrev pub with_commitments : Header → Commitments → Header
with_commitments header commitments = record header {
  transactions_root = commitments.transactions_root;
  proposals_hash = commitments.proposals_hash;
  uncles_hash = commitments.uncles_hash;
  dao = commitments.dao;
}
