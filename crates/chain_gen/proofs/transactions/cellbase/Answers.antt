use Rattle.std.proofs.Common.{ℕ, List, [], map, ap, ◌∙◌}
use Rattle.chain_defs.specs.Molecule as molecule
use Rattle.chain_defs.specs.Shape.{encoded, bytes, dynvec}
use Rattle.chain_defs.specs.Schema as schema
use Rattle.gen_defs.specs.Start as start
use Rattle.gen_defs.specs.Heights as heights
use Rattle.chain_gen.proofs.Parts.{one_of, null_row, cellbase_lists, cellbase_version, cellbase_parts}
use Rattle.chain_gen.proofs.transactions.cellbase.Goals as goal

pub returns : goal.returns
returns c = λ paid.
    let height : ℕ = c.args.height in
    let inputs = one_of molecule.fixvec c.deref-3.ensures.value c.in_ok-inputs.ensures.bytes c.deref.ensures.value
    (c.in_ok-input_row.ensures.bytes ∙ null_row height) in
    let outputs = c.deref-4.ensures.value ∙ c.in_ok-outputs.ensures.outputs
    ∙ ap (λ (outputs : List schema.CellOutput). encoded (dynvec schema.cell_output) outputs) paid in
    let contents = c.deref-5.ensures.value ∙ c.in_ok-outputs.ensures.contents
    ∙ ap (λ (outputs : List schema.CellOutput). encoded (dynvec bytes) (map {A = schema.CellOutput} {B = List ℕ} (λ output. []) outputs)) paid in
    let lists = cellbase_lists height _ _ _ inputs outputs contents in
    let raw = c.deref-9.ensures.value ∙ c.in_ok-raw.ensures.bytes (heights.cellbase height).raw (cellbase_version height) lists in
    let witness = c.deref-7.ensures.value ∙ c.in_ok-witness.ensures.bytes start.lock (c.deref-6.ensures.value ∙ c.requires.lock_is) in
    let witnesses = one_of molecule.dynvec c.deref-10.ensures.value c.in_ok-witnesses.ensures.bytes c.deref-8.ensures.value
    (c.in_ok-bytes_row.ensures.bytes ∙ ap (encoded bytes) witness) in
    c.tx_of.ensures (heights.cellbase height) (cellbase_parts height _ _ raw witnesses)
