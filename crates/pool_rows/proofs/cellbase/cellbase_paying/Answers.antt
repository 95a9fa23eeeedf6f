use Rattle.std.proofs.Common.{ℕ, List, [], ◌∷◌, None, ap, ◌∙◌, arith}
use Rattle.chain_defs.specs.Molecule as molecule
use Rattle.chain_defs.specs.Shape.{bytes, dynvec}
use Rattle.chain_defs.specs.Schema.{CellOutput, cell_output}
use Rattle.pool_rows.proofs.Fits.{vector-of-one, nothing-is, output-is, seen-as}
use Rattle.pool_rows.proofs.cellbase.cellbase_paying.Goals as goal

pub returns-clause-cellbase : goal.returns-clause-cellbase
returns-clause-cellbase c =
    let output : CellOutput = record { capacity = c.args.capacity; lock = c.args.lock.now; type_script = None } in
    let short = c.if-lock-ge-LOCK_BOUND.false in
    let row = output-is c.args.capacity c.args.lock.now c.in_ok-output_table.field-0.items c.bytes-lock.result.now c.ranges.capacity.fits c.bytes-lock.ensures
    (c.in_ok-output_table.ensures.bytes c.args.lock.now c.bytes-lock.ensures.encoding) (omega (arith, short, c.in_ok-output_table.ensures.size)) in
    let outputs = vector-of-one cell_output output c.in_ok-outputs.outputs.items c.in_ok-output_table.field-0.items row
    (c.in_ok-outputs.ensures.bytes ∙ ap (λ (l : List ℕ). molecule.dynvec (l ∷ [])) c.deref.ensures.value)
    (omega (arith, short, c.in_ok-outputs.ensures.size, c.deref.ensures.len, c.in_ok-output_table.ensures.size)) in
    let contents = vector-of-one bytes [] c.in_ok-contents.contents.items _ nothing-is c.in_ok-contents.ensures.bytes (omega (arith, c.in_ok-contents.ensures.size)) in
    c.cellbase_of.ensures.cellbase (output ∷ []) c.args.witness.now
    (seen-as (dynvec cell_output) c.in_ok-outputs.outputs.items c.deref-2.result.now (output ∷ []) c.deref-2.ensures.value outputs)
    (seen-as (dynvec bytes) c.in_ok-contents.contents.items c.deref-3.result.now ([] ∷ []) c.deref-3.ensures.value contents) c.bytes.ensures
