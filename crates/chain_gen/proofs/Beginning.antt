-- The start of a chain, by its parts.
use Rattle.std.proofs.Common.{◌≡◌, ℕ, List, [], ◌∷◌, length, refl, ap, ◌∙◌}
use Rattle.chain_defs.specs.Molecule as molecule
use Rattle.chain_defs.specs.Shape.{encoded, bytes}
use Rattle.chain_defs.specs.Schema as schema
use Rattle.chain_defs.specs.CkbHash.{ckbhash}
use Rattle.machine_defs.specs.File.{elf_file, head}
use Rattle.mol_rows.specs.Rows.{HasLists, HasParts}
use Rattle.gen_defs.specs.Start as start
use Rattle.chain_gen.proofs.Parts.{no_items, no_parts}

pub code_is : 0x93 ∷ 0x08 ∷ 0xd0 ∷ 0x05 ∷ 0x13 ∷ 0x05 ∷ 0 ∷ 0 ∷ 0x73 ∷ 0 ∷ 0 ∷ 0 ∷ [] ≡ start.code
unfolding start.code
code_is = refl

pub program_is : elf_file (0x93 ∷ 0x08 ∷ 0xd0 ∷ 0x05 ∷ 0x13 ∷ 0x05 ∷ 0 ∷ 0 ∷ 0x73 ∷ 0 ∷ 0 ∷ 0 ∷ []) ≡ start.program
unfolding start.program
program_is = ap elf_file code_is

pub program_size : length start.program ≡ 132
unfolding start.program start.code elf_file head
program_size = refl

pub lock_is : (file : List ℕ) → file ≡ start.program → encoded schema.script (record { code_hash = ckbhash file; hash_type = 0; args = [] }) ≡ encoded schema.script start.lock
unfolding start.lock
lock_is file is = ap (λ (file : List ℕ). encoded schema.script (record { code_hash = ckbhash file; hash_type = 0; args = [] })) is

pub genesis_lists : (inputs outputs contents : List ℕ)
    → inputs ≡ molecule.fixvec (encoded schema.cell_input (start.cellbase_input 0) ∷ [])
    → outputs ≡ molecule.dynvec (encoded schema.cell_output (start.output_of start.program_capacity) ∷ encoded schema.cell_output (start.output_of start.coin_capacity) ∷ [])
    → contents ≡ molecule.dynvec (encoded bytes start.program ∷ encoded bytes [] ∷ [])
    → HasLists start.genesis_transaction.raw (0 ∷ 0 ∷ 0 ∷ 0 ∷ []) (0 ∷ 0 ∷ 0 ∷ 0 ∷ []) inputs outputs contents
unfolding start.genesis_transaction
genesis_lists inputs outputs contents inputs_are outputs_are contents_are = record {
  cell_deps_are = no_items;
  header_deps_are = no_items;
  inputs_are = inputs_are;
  outputs_are = outputs_are;
  outputs_data_are = contents_are;
}

pub genesis_version : 0 ≡ start.genesis_transaction.raw.version
unfolding start.genesis_transaction
genesis_version = refl

pub genesis_parts : (raw : List ℕ) → raw ≡ encoded schema.raw_transaction start.genesis_transaction.raw → HasParts start.genesis_transaction raw (4 ∷ 0 ∷ 0 ∷ 0 ∷ [])
unfolding start.genesis_transaction
genesis_parts raw is = record { raw_is = is; witnesses_are = no_parts }

pub two_of : (f : List (List ℕ) → List ℕ) {outer list first second first_encoding second_encoding : List ℕ}
    → outer ≡ list → list ≡ f (first ∷ second ∷ []) → first ≡ first_encoding → second ≡ second_encoding → outer ≡ f (first_encoding ∷ second_encoding ∷ [])
two_of f {second = second} {first_encoding = first_encoding} outer_is list_is first_is second_is =
    outer_is ∙ list_is ∙ ap (λ (l : List ℕ). f (l ∷ second ∷ [])) first_is ∙ ap (λ (l : List ℕ). f (first_encoding ∷ l ∷ [])) second_is
