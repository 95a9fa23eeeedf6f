-- The block that is assembled before anything is put into it, and its header once all is (docs/RULES.md, "A block that is assembled").
use Rattle.std.specs.Prelude.{ℕ, ◌+◌, ◌^◌, nat_lt, List, [], ◌∷◌, map, length, replicate, Option, Some, None, if◌then◌else◌}
use Rattle.chain_defs.specs.Shape.{encoded}
use Rattle.chain_defs.specs.Schema.{CellInput, CellOutput, Transaction, Header, Block, CellbaseWitness, cellbase_witness}
use Rattle.chain_defs.specs.Epochs.{epoch_field}
use Rattle.chain_defs.specs.Dao.{DaoField, field_bytes}
use Rattle.chain_defs.specs.Specification.{Specification}
use Rattle.chain_defs.specs.Kept.{block_hash}
use Rattle.chain_defs.specs.Median.{median_time}
use Rattle.chain_defs.specs.Hashes.{transactions_root, proposals_hash, uncles_hash}
use Rattle.rule_defs.specs.Header.{parent_of}
use Rattle.rule_defs.specs.Cellbase.{null_index}
use Rattle.rule_defs.specs.Payment.{Owed, NoOutput, Pays, Unpayable, owed_after}
use Rattle.rule_defs.specs.Field.{next_dao}

-- ---- The cellbase

-- the output that is owed. Where no cellbase can pay what is owed there is none, and J31 is broken.
abbrev pub owed_outputs : Owed → List CellOutput
owed_outputs NoOutput = []
owed_outputs (Pays lock capacity) = record { capacity = capacity; lock = lock; type_script = None } ∷ []
owed_outputs Unpayable = []

-- its one input, of the block at a height
abbrev pub cellbase_input : ℕ → CellInput
cellbase_input height = record { since = height; previous_output = record { tx_hash = replicate 32 0; index = null_index } }

abbrev pub cellbase_with : ℕ → List CellOutput → CellbaseWitness → Transaction
cellbase_with height outputs witness = record {
  raw = record {
    version = 0;
    cell_deps = [];
    header_deps = [];
    inputs = cellbase_input height ∷ [];
    outputs = outputs;
    outputs_data = map (λ output. []) outputs;
  };
  witnesses = encoded cellbase_witness witness ∷ [];
}

-- The cellbase of the block after a branch, by J17 and J31, with this witness.
unfoldable pub cellbase : Specification → List Block → CellbaseWitness → Transaction
cellbase spec branch witness = cellbase_with (length branch) (owed_outputs (owed_after spec branch)) witness

-- ---- The header

-- 32 zero bytes, where nothing is committed to
unfoldable pub zero_bytes : List ℕ
zero_bytes = replicate 32 0

abbrev pub hash_of_parent : Option Block → List ℕ
hash_of_parent None = zero_bytes
hash_of_parent (Some parent) = block_hash parent

-- J8 asks for a timestamp above the median time. Above the greatest number of 64 bits there is none, and J8 is broken.
abbrev pub next_timestamp : ℕ → ℕ
next_timestamp median = if nat_lt (median + 1) (2 ^ 64) then median + 1 else median

-- The header of the block after a branch by J3 to J8, before it commits to what the block holds. Its nonce is 0.
unfoldable pub header_after : Specification → List Block → Header
header_after spec branch = record {
  version = 0;
  compact_target = spec.compact_target;
  timestamp = next_timestamp (median_time branch);
  number = length branch;
  epoch = epoch_field spec.epoch_length (length branch);
  parent_hash = hash_of_parent (parent_of branch);
  transactions_root = zero_bytes;
  proposals_hash = zero_bytes;
  uncles_hash = zero_bytes;
  dao = zero_bytes;
  nonce = 0;
}

-- ---- The block

-- The block before anything is put into it: its cellbase alone, no uncles and no proposal ids.
abbrev pub started : Specification → List Block → CellbaseWitness → Block
started spec branch witness = record {
  header = header_after spec branch;
  uncles = [];
  transactions = cellbase spec branch witness ∷ [];
  proposals = [];
}

-- the bytes of the next DAO field. Where there is none J32 is broken.
abbrev pub dao_bytes : Option DaoField → List ℕ
dao_bytes None = zero_bytes
dao_bytes (Some field) = field_bytes field

-- a header that commits to a block's proposal ids, transactions and uncles (J11, J12, J14), with the block's DAO field (J32)
unfoldable pub committed : Specification → List Block → Block → Header
committed spec branch b = record b.header {
  transactions_root = transactions_root b.transactions;
  proposals_hash = proposals_hash b.proposals;
  uncles_hash = uncles_hash b.uncles;
  dao = dao_bytes (next_dao spec branch b);
}

-- The block with all that was put into it: its header commits to that.
abbrev pub sealed : Specification → List Block → Block → Block
sealed spec branch b = record b { header = committed spec branch b }
