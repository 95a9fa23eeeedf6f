use Rattle.std.proofs.Common.{ℕ, ◌<◌, ◌^◌, ◌∷◌, [], List, length, refl, ap, ◌∙◌, arith}
use Rattle.chain_defs.specs.Molecule as molecule
use Rattle.chain_defs.specs.Shape.{encoded, bytes}
use Rattle.chain_defs.specs.Schema.{cellbase_witness}
use Rattle.pool_defs.specs.Start.{cellbase_with}
use Rattle.pool_rows.proofs.Parts.{one_of, null_row, cellbase_lists, cellbase_parts}
use Rattle.pool_rows.proofs.Fits.{vector-of-one, content-is, cellbase-is, both-of}
use Rattle.pool_rows.proofs.cellbase.cellbase_of.Goals as goal

pub returns-clause-cellbase : goal.returns-clause-cellbase
returns-clause-cellbase c = λ list w outputs contents witness.
    let height : ℕ = c.args.height in
    let inputs = one_of molecule.fixvec c.deref-2.ensures.value c.in_ok-inputs.ensures.bytes c.deref.ensures.value
    (c.in_ok-input_row.ensures.bytes ∙ null_row height) in
    let lists = cellbase_lists height list w _ _ _ inputs outputs.encoding contents.encoding in
    let raw = c.in_ok-raw.ensures.bytes (cellbase_with height list w).raw refl lists in
    let row = content-is c.in_ok-bytes_row.field-0.items c.args.witness.now (encoded cellbase_witness w) c.in_ok-bytes_row.ensures.bytes
    (λ i. omega (arith, c.type_inv.witness i)) (omega (arith, c.requires.witness)) witness.encoding in
    let witnesses = vector-of-one bytes (encoded cellbase_witness w) c.in_ok-witnesses.witnesses.items c.in_ok-bytes_row.field-0.items row
    (c.in_ok-witnesses.ensures.bytes ∙ ap (λ (l : List ℕ). molecule.dynvec (l ∷ [])) c.deref-3.ensures.value)
    (omega (arith, c.in_ok-witnesses.ensures.size, c.deref-3.ensures.len, c.in_ok-bytes_row.ensures.size, c.requires.witness)) in
    let parts = cellbase_parts height list w _ _ (c.deref-4.ensures.value ∙ raw) (c.deref-5.ensures.value ∙ witnesses.encoding) in
    let raw_short : length c.in_ok-raw.raw.items < 2 ^ 32 =
    omega (arith, c.in_ok-raw.ensures.size, c.deref-2.ensures.len, c.in_ok-inputs.ensures.size, c.deref.ensures.len, c.in_ok-input_row.ensures.size, c.requires.outputs, c.requires.contents) in
    both-of c.transaction_table.result
    (λ t is size. cellbase-is height list w t.items c.ranges.height.fits outputs contents raw raw_short witnesses is
    (omega (
      arith,
      size,
      c.deref-4.ensures.len,
      c.in_ok-raw.ensures.size,
      c.deref-2.ensures.len,
      c.in_ok-inputs.ensures.size,
      c.deref.ensures.len,
      c.in_ok-input_row.ensures.size,
      c.requires.outputs,
      c.requires.contents,
      c.deref-5.ensures.len,
      c.in_ok-witnesses.ensures.size,
      c.deref-3.ensures.len,
      c.in_ok-bytes_row.ensures.size,
      c.requires.witness,
    )))
    (c.transaction_table.ensures.bytes (cellbase_with height list w) parts) c.transaction_table.ensures.size
