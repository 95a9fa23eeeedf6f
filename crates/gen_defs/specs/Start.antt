-- What a generated chain begins with: its specification, the lock of all its cells, its genesis. Capacities are in shannons, times in milliseconds.
use Rattle.std.specs.Prelude.{ℕ, ◌*◌, ◌^◌, List, [], ◌∷◌, ◌++◌, None, replicate}
use Rattle.std.specs.Int.{w32, w64, to_le_bytes}
use Rattle.chain_defs.specs.CkbHash.{ckbhash}
use Rattle.chain_defs.specs.Schema.{Script, CellInput, CellOutput, Transaction, Block}
use Rattle.chain_defs.specs.Specification.{Specification}
use Rattle.chain_defs.specs.Dao.{DaoField, field_bytes}
use Rattle.chain_defs.specs.Hashes.{transaction_hash, transactions_root, proposals_hash, uncles_hash}
use Rattle.chain_defs.specs.Cell.{by_data}
use Rattle.rule_defs.specs.Cellbase.{null_index}
use Rattle.machine_defs.specs.File.{elf_file}

-- ---- The specification

unfoldable pub specification : Specification
specification = record {
  compact_target = 0x20000000;
  epoch_length = 10;
  w_close = 2;
  w_far = 10;
  max_block_bytes = 597000;
  max_proposals = 1500;
  max_cycles = 1000000000;
  maturity = 0;
  primary_reward = 1000000000000;
  secondary_reward = 100000000000;
  halving_interval = 1000;
  dao_code_hash = replicate 32 0xda;
  second_from = None;
}

-- the 100 bytes of a specification: their count, then its fields in their order (docs/RULES.md, "The chain specification")
unfoldable pub specification_bytes : Specification → List ℕ
specification_bytes spec =
    to_le_bytes w32 100 ++ to_le_bytes w32 spec.compact_target ++ to_le_bytes w32 spec.epoch_length ++ to_le_bytes w32 spec.w_close
    ++ to_le_bytes w32 spec.w_far ++ to_le_bytes w32 spec.max_block_bytes ++ to_le_bytes w32 spec.max_proposals
    ++ to_le_bytes w64 spec.max_cycles ++ to_le_bytes w64 spec.maturity ++ to_le_bytes w64 spec.primary_reward
    ++ to_le_bytes w64 spec.secondary_reward ++ to_le_bytes w64 spec.halving_interval ++ spec.dao_code_hash

-- ---- The lock of all its cells: whoever spends one, it succeeds

-- li a7, 93; li a0, 0; ecall: the code exits with 0
unfoldable pub code : List ℕ
code = to_le_bytes w32 0x05d00893 ++ (to_le_bytes w32 0x00000513 ++ to_le_bytes w32 0x00000073)

unfoldable pub program : List ℕ
program = elf_file code

unfoldable pub lock : Script
lock = record { code_hash = ckbhash program; hash_type = by_data; args = [] }

-- an output under it, with no type script
abbrev pub output_of : ℕ → CellOutput
output_of capacity = record { capacity = capacity; lock = lock; type_script = None }

-- ---- The genesis

-- the input of a cellbase, which spends nothing
abbrev pub cellbase_input : ℕ → CellInput
cellbase_input since = record { since = since; previous_output = record { tx_hash = replicate 32 0; index = null_index } }

-- what the cell with the program holds, and what the coin does
abbrev pub program_capacity : ℕ
program_capacity = 17300000000

abbrev pub coin_capacity : ℕ
coin_capacity = 10 ^ 15

-- Its transaction makes the cell with the program, and the coin.
unfoldable pub genesis_transaction : Transaction
genesis_transaction = record {
  raw = record {
    version = 0;
    cell_deps = [];
    header_deps = [];
    inputs = cellbase_input 0 ∷ [];
    outputs = output_of program_capacity ∷ output_of coin_capacity ∷ [];
    outputs_data = program ∷ [] ∷ [];
  };
  witnesses = [];
}

unfoldable pub genesis_hash : List ℕ
genesis_hash = transaction_hash genesis_transaction

-- All that its cells hold is issued. They occupy 173 and 41 bytes.
unfoldable pub genesis_field : DaoField
genesis_field = record { issued = 1000017300000000; rate = 10 ^ 16; savings = 0; occupied = 214 * 10 ^ 8 }

unfoldable pub genesis : Block
genesis = record {
  header = record {
    version = 0;
    compact_target = specification.compact_target;
    timestamp = 1000;
    number = 0;
    epoch = 0;
    parent_hash = replicate 32 0;
    transactions_root = transactions_root (genesis_transaction ∷ []);
    proposals_hash = proposals_hash [];
    uncles_hash = uncles_hash [];
    dao = field_bytes genesis_field;
    nonce = 0;
  };
  uncles = [];
  transactions = genesis_transaction ∷ [];
  proposals = [];
}
