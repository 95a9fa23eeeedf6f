-- The block once all is put into it, as the code makes it.
use Rattle.std.specs.Prelude.{◌≡◌, ℕ, List, []}
use Rattle.chain_defs.specs.Schema.{Transaction, Header, Block}
use Rattle.chain_defs.specs.Specification.{Specification}
use Rattle.chain_defs.specs.Hashes.{transactions_root, proposals_hash, uncles_hash}
use Rattle.rule_defs.specs.Field.{next_dao}
use Rattle.pool_defs.specs.Start.{header_after, dao_bytes}
use Rattle.pool_rows.specs.declared.header.Commitments.{Commitments}

-- A block after a branch, whose header does not commit to it yet, has these transactions and proposal ids, and no uncles.
pub record Fills (spec : Specification) (on : List Block) (b : Block) (transactions : List Transaction) (ids : List (List ℕ)) : Type 0 where
  pub header_is : b.header ≡ header_after spec on
  pub no_uncles : b.uncles ≡ []
  pub transactions_are : transactions ≡ b.transactions
  pub ids_are : ids ≡ b.proposals

-- what the header of a block after a branch commits to it by
abbrev pub commitments_to : Specification → List Block → Block → Commitments
commitments_to spec on b = record {
  transactions_root = transactions_root b.transactions;
  proposals_hash = proposals_hash b.proposals;
  uncles_hash = uncles_hash b.uncles;
  dao = dao_bytes (next_dao spec on b);
}

-- the header after a branch, with these commitments
abbrev pub header_on : Specification → List Block → Commitments → Header
header_on spec on commitments = record (header_after spec on) {
  transactions_root = commitments.transactions_root;
  proposals_hash = commitments.proposals_hash;
  uncles_hash = commitments.uncles_hash;
  dao = commitments.dao;
}
