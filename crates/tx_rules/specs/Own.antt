-- The transactions of the block that is judged, as a block.
use Rattle.std.specs.Prelude.{ℕ, List, []}
use Rattle.chain_defs.specs.Schema.{Header, Transaction, Block}
use Rattle.tx_rules.specs.declared.at.Held.{Held}
use Rattle.tx_rules.specs.declared.at.Held.TheVariants.{Block as whole, Apart as apart}

-- a header of which nothing but the timestamp is looked at
abbrev pub header_with : ℕ → Header
header_with timestamp = record {
  version = 0;
  compact_target = 0;
  timestamp = timestamp;
  number = 0;
  epoch = 0;
  parent_hash = [];
  transactions_root = [];
  proposals_hash = [];
  uncles_hash = [];
  dao = [];
  nonce = 0;
}

-- a block that has this timestamp and these transactions
abbrev pub of_transactions : ℕ → List Transaction → Block
of_transactions timestamp transactions = record { header = header_with timestamp; uncles = []; transactions = transactions; proposals = [] }

abbrev pub block_of : Held → Block
block_of (whole b) = b
block_of (apart timestamp transactions) = of_transactions timestamp transactions.now
