-- The chain's values and their shapes, as CKB's schema blockchain.mol has them (docs/FORMATS.md, The schema). Above each
-- row stands its declaration there. A row's encoding and its decoding name the fields in the declaration's order.
use Rattle.std.specs.Prelude.{ℕ, List, [], ◌∷◌, Option}
use Rattle.std.specs.List.{slice_range}
use Rattle.chain_defs.specs.Shape.{Shape, byte, u32, u64, u128, byte_array, bytes, fixvec, dynvec, option, struct, table, encode_field, decode_field, table_field}

-- array Byte32 [byte; 32]
abbrev pub byte32 : Shape (List ℕ)
byte32 = byte_array 32

-- array ProposalShortId [byte; 10]
abbrev pub proposal_short_id : Shape (List ℕ)
proposal_short_id = byte_array 10

pub record Script : Type 0 where
  pub code_hash : List ℕ
  pub hash_type : ℕ
  pub args : List ℕ

-- table Script { code_hash: Byte32, hash_type: byte, args: Bytes }
unfoldable pub script : Shape Script
script = record {
  encoding = λ s. table (encode_field byte32 s.code_hash ∷ encode_field byte s.hash_type ∷ encode_field bytes s.args ∷ []);
  decoding = λ b. record { code_hash = decode_field byte32 (table_field b 0); hash_type = decode_field byte (table_field b 1); args = decode_field bytes (table_field b 2) };
}

pub record OutPoint : Type 0 where
  pub tx_hash : List ℕ
  pub index : ℕ

-- struct OutPoint { tx_hash: Byte32, index: Uint32 }
unfoldable pub out_point : Shape OutPoint
out_point = record {
  encoding = λ o. struct (encode_field byte32 o.tx_hash ∷ encode_field u32 o.index ∷ []);
  decoding = λ b. record { tx_hash = decode_field byte32 (slice_range b 0 32); index = decode_field u32 (slice_range b 32 36) };
}

pub record CellInput : Type 0 where
  pub since : ℕ
  pub previous_output : OutPoint

-- struct CellInput { since: Uint64, previous_output: OutPoint }
unfoldable pub cell_input : Shape CellInput
cell_input = record {
  encoding = λ i. struct (encode_field u64 i.since ∷ encode_field out_point i.previous_output ∷ []);
  decoding = λ b. record { since = decode_field u64 (slice_range b 0 8); previous_output = decode_field out_point (slice_range b 8 44) };
}

pub record CellDep : Type 0 where
  pub out_point : OutPoint
  pub dep_type : ℕ

-- struct CellDep { out_point: OutPoint, dep_type: byte }
unfoldable pub cell_dep : Shape CellDep
cell_dep = record {
  encoding = λ d. struct (encode_field out_point d.out_point ∷ encode_field byte d.dep_type ∷ []);
  decoding = λ b. record { out_point = decode_field out_point (slice_range b 0 36); dep_type = decode_field byte (slice_range b 36 37) };
}

pub record CellOutput : Type 0 where
  pub capacity : ℕ
  pub lock : Script
  pub type_script : Option Script

-- table CellOutput { capacity: Uint64, lock: Script, type: ScriptOpt }
unfoldable pub cell_output : Shape CellOutput
cell_output = record {
  encoding = λ o. table (encode_field u64 o.capacity ∷ encode_field script o.lock ∷ encode_field (option script) o.type_script ∷ []);
  decoding = λ b. record {
    capacity = decode_field u64 (table_field b 0);
    lock = decode_field script (table_field b 1);
    type_script = decode_field (option script) (table_field b 2);
  };
}

pub record RawTransaction : Type 0 where
  pub version : ℕ
  pub cell_deps : List CellDep
  pub header_deps : List (List ℕ)
  pub inputs : List CellInput
  pub outputs : List CellOutput
  pub outputs_data : List (List ℕ)

-- table RawTransaction { version: Uint32, cell_deps: CellDepVec, header_deps: Byte32Vec,
--                        inputs: CellInputVec, outputs: CellOutputVec, outputs_data: BytesVec }
unfoldable pub raw_transaction : Shape RawTransaction
raw_transaction = record {
  encoding = λ t. table (
      encode_field u32 t.version
      ∷ encode_field (fixvec 37 cell_dep) t.cell_deps
      ∷ encode_field (fixvec 32 byte32) t.header_deps
      ∷ encode_field (fixvec 44 cell_input) t.inputs
      ∷ encode_field (dynvec cell_output) t.outputs
      ∷ encode_field (dynvec bytes) t.outputs_data
      ∷ []);
  decoding = λ b. record {
    version = decode_field u32 (table_field b 0);
    cell_deps = decode_field (fixvec 37 cell_dep) (table_field b 1);
    header_deps = decode_field (fixvec 32 byte32) (table_field b 2);
    inputs = decode_field (fixvec 44 cell_input) (table_field b 3);
    outputs = decode_field (dynvec cell_output) (table_field b 4);
    outputs_data = decode_field (dynvec bytes) (table_field b 5);
  };
}

pub record Transaction : Type 0 where
  pub raw : RawTransaction
  pub witnesses : List (List ℕ)

-- table Transaction { raw: RawTransaction, witnesses: BytesVec }
unfoldable pub transaction : Shape Transaction
transaction = record {
  encoding = λ t. table (encode_field raw_transaction t.raw ∷ encode_field (dynvec bytes) t.witnesses ∷ []);
  decoding = λ b. record { raw = decode_field raw_transaction (table_field b 0); witnesses = decode_field (dynvec bytes) (table_field b 1) };
}

pub record Header : Type 0 where
  pub version : ℕ
  pub compact_target : ℕ
  pub timestamp : ℕ
  pub number : ℕ
  pub epoch : ℕ
  pub parent_hash : List ℕ
  pub transactions_root : List ℕ
  pub proposals_hash : List ℕ
  pub uncles_hash : List ℕ
  pub dao : List ℕ
  pub nonce : ℕ

-- struct Header: the RawHeader { version: Uint32, compact_target: Uint32, timestamp: Uint64, number: Uint64, epoch: Uint64,
--                parent_hash, transactions_root, proposals_hash, uncles_hash, dao: Byte32 }, then nonce: Uint128
unfoldable pub header : Shape Header
header = record {
  encoding = λ h. struct (
      encode_field u32 h.version
      ∷ encode_field u32 h.compact_target
      ∷ encode_field u64 h.timestamp
      ∷ encode_field u64 h.number
      ∷ encode_field u64 h.epoch
      ∷ encode_field byte32 h.parent_hash
      ∷ encode_field byte32 h.transactions_root
      ∷ encode_field byte32 h.proposals_hash
      ∷ encode_field byte32 h.uncles_hash
      ∷ encode_field byte32 h.dao
      ∷ encode_field u128 h.nonce
      ∷ []);
  decoding = λ b. record {
    version = decode_field u32 (slice_range b 0 4);
    compact_target = decode_field u32 (slice_range b 4 8);
    timestamp = decode_field u64 (slice_range b 8 16);
    number = decode_field u64 (slice_range b 16 24);
    epoch = decode_field u64 (slice_range b 24 32);
    parent_hash = decode_field byte32 (slice_range b 32 64);
    transactions_root = decode_field byte32 (slice_range b 64 96);
    proposals_hash = decode_field byte32 (slice_range b 96 128);
    uncles_hash = decode_field byte32 (slice_range b 128 160);
    dao = decode_field byte32 (slice_range b 160 192);
    nonce = decode_field u128 (slice_range b 192 208);
  };
}

pub record UncleBlock : Type 0 where
  pub header : Header
  pub proposals : List (List ℕ)

-- table UncleBlock { header: Header, proposals: ProposalShortIdVec }
unfoldable pub uncle_block : Shape UncleBlock
uncle_block = record {
  encoding = λ u. table (encode_field header u.header ∷ encode_field (fixvec 10 proposal_short_id) u.proposals ∷ []);
  decoding = λ b. record { header = decode_field header (table_field b 0); proposals = decode_field (fixvec 10 proposal_short_id) (table_field b 1) };
}

pub record Block : Type 0 where
  pub header : Header
  pub uncles : List UncleBlock
  pub transactions : List Transaction
  pub proposals : List (List ℕ)

-- table Block { header: Header, uncles: UncleBlockVec, transactions: TransactionVec, proposals: ProposalShortIdVec }
unfoldable pub block : Shape Block
block = record {
  encoding = λ b. table (
      encode_field header b.header
      ∷ encode_field (dynvec uncle_block) b.uncles
      ∷ encode_field (dynvec transaction) b.transactions
      ∷ encode_field (fixvec 10 proposal_short_id) b.proposals
      ∷ []);
  decoding = λ b. record {
    header = decode_field header (table_field b 0);
    uncles = decode_field (dynvec uncle_block) (table_field b 1);
    transactions = decode_field (dynvec transaction) (table_field b 2);
    proposals = decode_field (fixvec 10 proposal_short_id) (table_field b 3);
  };
}

pub record CellbaseWitness : Type 0 where
  pub lock : Script
  pub message : List ℕ

-- table CellbaseWitness { lock: Script, message: Bytes }
unfoldable pub cellbase_witness : Shape CellbaseWitness
cellbase_witness = record {
  encoding = λ w. table (encode_field script w.lock ∷ encode_field bytes w.message ∷ []);
  decoding = λ b. record { lock = decode_field script (table_field b 0); message = decode_field bytes (table_field b 1) };
}

pub record WitnessArgs : Type 0 where
  pub lock : Option (List ℕ)
  pub input_type : Option (List ℕ)
  pub output_type : Option (List ℕ)

-- table WitnessArgs { lock: BytesOpt, input_type: BytesOpt, output_type: BytesOpt }
unfoldable pub witness_args : Shape WitnessArgs
witness_args = record {
  encoding = λ w. table (encode_field (option bytes) w.lock ∷ encode_field (option bytes) w.input_type ∷ encode_field (option bytes) w.output_type ∷ []);
  decoding = λ b. record {
    lock = decode_field (option bytes) (table_field b 0);
    input_type = decode_field (option bytes) (table_field b 1);
    output_type = decode_field (option bytes) (table_field b 2);
  };
}

-- vector OutPointVec <OutPoint>
abbrev pub out_points : Shape (List OutPoint)
out_points = fixvec 36 out_point
