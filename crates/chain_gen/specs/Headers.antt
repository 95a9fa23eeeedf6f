-- The header of a chain's block, by what it has of its own.
use Rattle.std.specs.Prelude.{[]}
use Rattle.chain_defs.specs.Schema.{Header}
use Rattle.chain_defs.specs.Hashes.{uncles_hash}
use Rattle.gen_defs.specs.Start.{specification}
use Rattle.chain_gen.specs.declared.growth.HeaderFields.{HeaderFields}

-- version 0, the chain's target, no uncles
abbrev pub header_of : HeaderFields → Header
header_of fields = record {
  version = 0;
  compact_target = specification.compact_target;
  timestamp = fields.timestamp;
  number = fields.number;
  epoch = fields.epoch;
  parent_hash = fields.parent_hash;
  transactions_root = fields.transactions_root;
  proposals_hash = fields.proposals_hash;
  uncles_hash = uncles_hash [];
  dao = fields.dao;
  nonce = fields.nonce;
}
