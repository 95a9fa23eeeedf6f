-- The specification and the genesis of a generated chain.
use Rattle.std.proofs.Common.{◌≡◌, ℕ, [], ◌∷◌, length, Some, None, refl, ap, ◌∙◌}
use Rattle.chain_defs.specs.Molecule as molecule
use Rattle.chain_defs.specs.Shape.{encoded, decoded, u32, u64, u128, bytes, dynvec, fixvec}
use Rattle.chain_defs.specs.Schema.{byte32, proposal_short_id, script, out_point, cell_input, cell_output, raw_transaction, transaction, header, uncle_block, block}
use Rattle.chain_defs.proofs.ShapeLaws.{decoded-is}
use Rattle.chain_defs.proofs.RowLaws.{block-check}
use Rattle.chain_defs.specs.First.{first_failing}
use Rattle.chain_defs.specs.Dao.{field_bytes, field_of_bytes}
use Rattle.chain_defs.specs.Root.{node, node_within}
use Rattle.chain_defs.specs.Hashes.{transactions_root, proposals_hash, uncles_hash}
use Rattle.rule_defs.specs.Cellbase.{null_index}
use Rattle.machine_defs.specs.File.{head, elf_file}
use Rattle.rule_defs.specs.Genesis.{broken_by, broken_genesis_rule}
use Rattle.gen_defs.specs.Start.{specification, specification_bytes, code, program, lock, output_of, cellbase_input, program_capacity, coin_capacity, genesis_transaction, genesis_field, genesis}
use Rattle.gen_defs.specs.GenesisStart.{KeepsGenesisRules, AreOfSizes}
use Rattle.gen_defs.proofs.SizeLemmas.{Fits, known-fits, none-fit, and-fits, struct-fits, table-fits, hash-fits}

lock-fits : Fits (script.encoding lock) 53
unfolding script lock molecule.fixvec
lock-fits = table-fits (and-fits (hash-fits program) (and-fits (record { fits = refl; size = refl }) (and-fits (record { fits = refl; size = refl }) none-fit))) refl

output-fits : (capacity : ℕ) → Fits (u64.encoding capacity) 8 → Fits (cell_output.encoding (output_of capacity)) 77
unfolding cell_output
output-fits capacity small = table-fits (and-fits small (and-fits lock-fits (and-fits (record { fits = refl; size = refl }) none-fit))) refl

inputs-fit : Fits ((fixvec 44 cell_input).encoding (cellbase_input 0 ∷ [])) 48
unfolding cell_input out_point null_index molecule.fixvec
inputs-fit = record { fits = refl; size = refl }

program-fits : Fits (bytes.encoding program) 136
unfolding program code elf_file head molecule.fixvec
program-fits = record { fits = refl; size = refl }

nothing-fits : Fits (bytes.encoding []) 4
unfolding molecule.fixvec
nothing-fits = record { fits = refl; size = refl }

outputs-fit : Fits ((dynvec cell_output).encoding (output_of program_capacity ∷ output_of coin_capacity ∷ [])) 166
outputs-fit = table-fits (and-fits (output-fits program_capacity (record { fits = refl; size = refl }))
    (and-fits (output-fits coin_capacity (record { fits = refl; size = refl })) none-fit)) refl

data-fits : Fits ((dynvec bytes).encoding (program ∷ [] ∷ [])) 152
data-fits = table-fits (and-fits program-fits (and-fits nothing-fits none-fit)) refl

raw-fits : Fits (raw_transaction.encoding genesis_transaction.raw) 406
unfolding raw_transaction genesis_transaction molecule.fixvec
raw-fits = table-fits (and-fits (record { fits = refl; size = refl }) (and-fits (record { fits = refl; size = refl }) (and-fits (record { fits = refl; size = refl })
    (and-fits inputs-fit (and-fits outputs-fit (and-fits data-fits none-fit)))))) refl

transaction-fits : Fits (transaction.encoding genesis_transaction) 422
unfolding transaction genesis_transaction molecule.dynvec molecule.full_size molecule.header_size molecule.offsets
transaction-fits = table-fits (and-fits raw-fits (and-fits (known-fits ((dynvec bytes).encoding []) refl) none-fit)) refl

header-fits : Fits (header.encoding genesis.header) 208
unfolding header genesis specification transactions_root node node_within proposals_hash uncles_hash field_bytes genesis_field
header-fits = struct-fits
    (and-fits (known-fits (u32.encoding genesis.header.version) refl) (and-fits (known-fits (u32.encoding genesis.header.compact_target) refl)
    (and-fits (known-fits (u64.encoding genesis.header.timestamp) refl) (and-fits (known-fits (u64.encoding genesis.header.number) refl)
    (and-fits (known-fits (u64.encoding genesis.header.epoch) refl) (and-fits (known-fits (byte32.encoding genesis.header.parent_hash) refl)
    (and-fits (hash-fits _) (and-fits (known-fits (byte32.encoding genesis.header.proposals_hash) refl)
    (and-fits (known-fits (byte32.encoding genesis.header.uncles_hash) refl) (and-fits (known-fits (byte32.encoding genesis.header.dao) refl)
    (and-fits (known-fits (u128.encoding genesis.header.nonce) refl) none-fit)))))))))))

genesis-fits : Fits (block.encoding genesis) 666
unfolding block genesis molecule.fixvec molecule.dynvec molecule.full_size molecule.header_size molecule.offsets
genesis-fits = table-fits
    (and-fits header-fits (and-fits (known-fits ((dynvec uncle_block).encoding []) refl)
    (and-fits (table-fits (and-fits transaction-fits none-fit) refl) (and-fits (known-fits ((fixvec 10 proposal_short_id).encoding []) refl) none-fit)))) refl

genesis-read : decoded block (encoded block genesis) ≡ Some genesis
genesis-read = decoded-is block block-check (encoded block genesis) genesis (record { fits = genesis-fits.fits; encoding = refl })

rules-kept : broken_by (Some genesis) ≡ None
unfolding first_failing genesis genesis_transaction genesis_field field_bytes field_of_bytes lock program code elf_file head
rules-kept = refl

pub keeps-genesis-rules : KeepsGenesisRules
unfolding broken_genesis_rule
keeps-genesis-rules = ap broken_by genesis-read ∙ rules-kept

specification-size : length (specification_bytes specification) ≡ 100
unfolding specification_bytes specification
specification-size = refl

pub are-of-sizes : AreOfSizes
are-of-sizes = (specification-size, genesis-fits.size)
