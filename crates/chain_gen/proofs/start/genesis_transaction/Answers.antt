use Rattle.std.proofs.Common.{ap, ◌∙◌}
use Rattle.chain_defs.specs.Molecule as molecule
use Rattle.chain_defs.specs.Shape.{encoded, bytes}
use Rattle.gen_defs.specs.Start as start
use Rattle.chain_gen.proofs.Parts.{no_items, one_of, null_row}
use Rattle.chain_gen.proofs.Beginning.{two_of, genesis_lists, genesis_version, genesis_parts}
use Rattle.chain_gen.proofs.start.genesis_transaction.Goals as goal

pub returns : goal.returns
returns c =
    let inputs = one_of molecule.fixvec c.deref-6.ensures.value c.in_ok-inputs.ensures.bytes c.deref.ensures.value
    (c.in_ok-input_row.ensures.bytes ∙ null_row 0) in
    let outputs = two_of molecule.dynvec c.deref-7.ensures.value c.in_ok-outputs.ensures.bytes
    (c.deref-2.ensures.value ∙ c.in_ok-output_table.ensures.bytes start.lock c.requires.lock)
    (c.deref-3.ensures.value ∙ c.in_ok-output_table-2.ensures.bytes start.lock c.requires.lock) in
    let contents = two_of molecule.dynvec c.deref-8.ensures.value c.in_ok-data.ensures.bytes
    (c.deref-5.ensures.value ∙ c.in_ok-bytes_row.ensures.bytes ∙ ap (encoded bytes) (c.deref-4.ensures.value ∙ c.in_ok-file.ensures.file)) no_items in
    let raw = c.deref-9.ensures.value ∙ c.in_ok-raw.ensures.bytes start.genesis_transaction.raw genesis_version (genesis_lists _ _ _ inputs outputs contents) in
    c.tx_of.ensures start.genesis_transaction (genesis_parts _ raw)
