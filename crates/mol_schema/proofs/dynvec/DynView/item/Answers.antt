use Rattle.std.proofs.Common.{List, ℕ, ◌<◌, length, ap, sym, ◌∙◌, arith, Some}
use Rattle.std.specs.Prelude.{slice_get}
use Rattle.chain_defs.specs.Molecule.{parts_of, part_count}
use Rattle.mol_schema.proofs.Reading.{IsLaidOut-from_dynvec, layout-short, length-parts_of, slice_get-parts_of}
use Rattle.mol_schema.proofs.dynvec.DynView.item.Goals as goal

pub count_parts-requires : goal.count_parts-requires
count_parts-requires c =
    let bytes = c.self.inside.bytes.now in
    layout-short bytes (IsLaidOut-from_dynvec bytes (parts_of bytes) c.self.invariant)

pub part-requires-clause-laid_out : goal.part-requires-clause-laid_out
part-requires-clause-laid_out c =
    let bytes = c.self.inside.bytes.now in
    IsLaidOut-from_dynvec bytes (parts_of bytes) c.self.invariant

pub part-requires-clause-within : goal.part-requires-clause-within
part-requires-clause-within c = omega (arith, length-parts_of c.self.inside.bytes.now, ap length c.self.view_is, c.count_parts.ensures.value, c.requires)

pub returns : goal.returns
returns c =
    let bytes = c.self.inside.bytes.now in
    let within : c.args.i < part_count bytes = omega (arith, length-parts_of bytes, ap length c.self.view_is, c.requires) in
    ap (λ (l : List (List ℕ)). slice_get l c.args.i) (sym c.self.view_is) ∙ slice_get-parts_of bytes c.args.i within ∙ ap (λ (l : List ℕ). Some l) (sym c.part.ensures)
