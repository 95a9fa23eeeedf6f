-- What there is to check of each row of the schema. A row's law follows from those of its fields.
use Rattle.std.proofs.Common.{refl}
use Rattle.chain_defs.specs.Shape.{bytes, fixvec, option}
use Rattle.chain_defs.specs.Schema.{byte32, proposal_short_id, Script, script, OutPoint, out_point, CellInput, cell_input, CellDep, cell_dep, CellOutput, cell_output, RawTransaction, raw_transaction, Transaction, transaction, Header, header, UncleBlock, uncle_block, Block, block, CellbaseWitness, cellbase_witness, WitnessArgs, witness_args, out_points}
use Rattle.chain_defs.specs.Checked.{IsCheckOf, HasLength, IsItems, IsBytes, IsOptionOf, IsScript, IsCellOutput, IsRawTransaction, IsTransaction, IsUncleBlock, IsBlock, IsCellbaseWitness, IsWitnessArgs}
use Rattle.chain_defs.proofs.Checks.{byte-check, u32-check, u64-check, u128-check, byte_array-check, bytes-check, fixvec-check, dynvec-check, option-check, field, last_field, table-check, place, end, struct-check, long_table, long_items}

byte32-check : IsCheckOf (HasLength 32) byte32
byte32-check = byte_array-check 32

proposals-check : IsCheckOf (IsItems 10) (fixvec 10 proposal_short_id)
proposals-check = fixvec-check 10 (byte_array-check 10)

pub script-check : IsCheckOf IsScript script
unfolding script
script-check =
    let fields = field 0 byte32-check (field 1 byte-check (last_field 2 bytes-check)) in
    table-check 3 fields
    (λ (v : Script). (v.code_hash, (v.hash_type, v.args)))
    (λ f. record { code_hash = f.0; hash_type = f.1.0; args = f.1.1 })
    (λ v. refl) (λ f. refl) (λ f. refl)

script_option-check : IsCheckOf (IsOptionOf IsScript) (option script)
script_option-check = option-check script-check (λ b p. long_table 3 b p.0)

bytes_option-check : IsCheckOf (IsOptionOf IsBytes) (option bytes)
bytes_option-check = option-check bytes-check (long_items 1)

pub out_point-check : IsCheckOf (HasLength 36) out_point
unfolding out_point
out_point-check =
    let fields = place 0 32 byte32-check (place 32 4 u32-check (end 36)) in
    struct-check fields
    (λ (v : OutPoint). (v.tx_hash, (v.index, tt)))
    (λ f. record { tx_hash = f.0; index = f.1.0 })
    (λ v. refl) (λ f. refl)

pub cell_input-check : IsCheckOf (HasLength 44) cell_input
unfolding cell_input
cell_input-check =
    let fields = place 0 8 u64-check (place 8 36 out_point-check (end 44)) in
    struct-check fields
    (λ (v : CellInput). (v.since, (v.previous_output, tt)))
    (λ f. record { since = f.0; previous_output = f.1.0 })
    (λ v. refl) (λ f. refl)

pub cell_dep-check : IsCheckOf (HasLength 37) cell_dep
unfolding cell_dep
cell_dep-check =
    let fields = place 0 36 out_point-check (place 36 1 byte-check (end 37)) in
    struct-check fields
    (λ (v : CellDep). (v.out_point, (v.dep_type, tt)))
    (λ f. record { out_point = f.0; dep_type = f.1.0 })
    (λ v. refl) (λ f. refl)

pub header-check : IsCheckOf (HasLength 208) header
unfolding header
header-check =
    let fields =
    place 0 4 u32-check (place 4 4 u32-check (place 8 8 u64-check (place 16 8 u64-check (place 24 8 u64-check
    (place 32 32 byte32-check (place 64 32 byte32-check (place 96 32 byte32-check (place 128 32 byte32-check
    (place 160 32 byte32-check (place 192 16 u128-check (end 208))))))))))) in
    struct-check fields
    (λ (v : Header). (v.version, (v.compact_target, (v.timestamp, (v.number, (v.epoch, (v.parent_hash, (v.transactions_root, (v.proposals_hash, (v.uncles_hash, (v.dao, (v.nonce, tt))))))))))))
    (λ f. record { version = f.0; compact_target = f.1.0; timestamp = f.1.1.0; number = f.1.1.1.0; epoch = f.1.1.1.1.0; parent_hash = f.1.1.1.1.1.0; transactions_root = f.1.1.1.1.1.1.0; proposals_hash = f.1.1.1.1.1.1.1.0; uncles_hash = f.1.1.1.1.1.1.1.1.0; dao = f.1.1.1.1.1.1.1.1.1.0; nonce = f.1.1.1.1.1.1.1.1.1.1.0 })
    (λ v. refl) (λ f. refl)

pub cell_output-check : IsCheckOf IsCellOutput cell_output
unfolding cell_output
cell_output-check =
    let fields = field 0 u64-check (field 1 script-check (last_field 2 script_option-check)) in
    table-check 3 fields
    (λ (v : CellOutput). (v.capacity, (v.lock, v.type_script)))
    (λ f. record { capacity = f.0; lock = f.1.0; type_script = f.1.1 })
    (λ v. refl) (λ f. refl) (λ f. refl)

pub raw_transaction-check : IsCheckOf IsRawTransaction raw_transaction
unfolding raw_transaction
raw_transaction-check =
    let fields =
    field 0 u32-check (field 1 (fixvec-check 37 cell_dep-check) (field 2 (fixvec-check 32 byte32-check)
    (field 3 (fixvec-check 44 cell_input-check) (field 4 (dynvec-check cell_output-check)
    (last_field 5 (dynvec-check bytes-check)))))) in
    table-check 6 fields
    (λ (v : RawTransaction). (v.version, (v.cell_deps, (v.header_deps, (v.inputs, (v.outputs, v.outputs_data))))))
    (λ f. record { version = f.0; cell_deps = f.1.0; header_deps = f.1.1.0; inputs = f.1.1.1.0; outputs = f.1.1.1.1.0; outputs_data = f.1.1.1.1.1 })
    (λ v. refl) (λ f. refl) (λ f. refl)

pub transaction-check : IsCheckOf IsTransaction transaction
unfolding transaction
transaction-check =
    let fields = field 0 raw_transaction-check (last_field 1 (dynvec-check bytes-check)) in
    table-check 2 fields
    (λ (v : Transaction). (v.raw, v.witnesses))
    (λ f. record { raw = f.0; witnesses = f.1 })
    (λ v. refl) (λ f. refl) (λ f. refl)

pub uncle_block-check : IsCheckOf IsUncleBlock uncle_block
unfolding uncle_block
uncle_block-check =
    let fields = field 0 header-check (last_field 1 proposals-check) in
    table-check 2 fields
    (λ (v : UncleBlock). (v.header, v.proposals))
    (λ f. record { header = f.0; proposals = f.1 })
    (λ v. refl) (λ f. refl) (λ f. refl)

pub block-check : IsCheckOf IsBlock block
unfolding block
block-check =
    let fields =
    field 0 header-check (field 1 (dynvec-check uncle_block-check) (field 2 (dynvec-check transaction-check)
    (last_field 3 proposals-check))) in
    table-check 4 fields
    (λ (v : Block). (v.header, (v.uncles, (v.transactions, v.proposals))))
    (λ f. record { header = f.0; uncles = f.1.0; transactions = f.1.1.0; proposals = f.1.1.1 })
    (λ v. refl) (λ f. refl) (λ f. refl)

pub cellbase_witness-check : IsCheckOf IsCellbaseWitness cellbase_witness
unfolding cellbase_witness
cellbase_witness-check =
    let fields = field 0 script-check (last_field 1 bytes-check) in
    table-check 2 fields
    (λ (v : CellbaseWitness). (v.lock, v.message))
    (λ f. record { lock = f.0; message = f.1 })
    (λ v. refl) (λ f. refl) (λ f. refl)

pub witness_args-check : IsCheckOf IsWitnessArgs witness_args
unfolding witness_args
witness_args-check =
    let fields = field 0 bytes_option-check (field 1 bytes_option-check (last_field 2 bytes_option-check)) in
    table-check 3 fields
    (λ (v : WitnessArgs). (v.lock, (v.input_type, v.output_type)))
    (λ f. record { lock = f.0; input_type = f.1.0; output_type = f.1.1 })
    (λ v. refl) (λ f. refl) (λ f. refl)

pub out_points-check : IsCheckOf (IsItems 36) out_points
out_points-check = fixvec-check 36 out_point-check
