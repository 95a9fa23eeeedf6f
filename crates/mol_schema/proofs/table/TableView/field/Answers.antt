use Rattle.std.proofs.Common.{List, ℕ, ◌≡◌, ◌<◌, ap, sym, ◌∙◌, arith, Some}
use Rattle.std.specs.Prelude.{slice_get}
use Rattle.chain_defs.specs.Molecule.{parts_of, part_count}
use Rattle.mol_schema.proofs.Reading.{IsDynvec-from_table, IsLaidOut-from_dynvec, slice_get-parts_of, part_count-table}
use Rattle.mol_schema.proofs.table.TableView.field.Goals as goal

pub part-requires-clause-laid_out : goal.part-requires-clause-laid_out
part-requires-clause-laid_out g c =
    let bytes = c.self.inside.bytes.now in
    IsLaidOut-from_dynvec bytes (parts_of bytes) (IsDynvec-from_table g.row.N bytes (parts_of bytes) c.self.invariant)

pub part-requires-clause-counted : goal.part-requires-clause-counted
part-requires-clause-counted g c = let bytes = c.self.inside.bytes.now in sym (part_count-table g.row.N bytes (parts_of bytes) c.self.invariant)

pub returns : goal.returns
returns g c =
    let bytes = c.self.inside.bytes.now in
    let count : part_count bytes ≡ g.row.N = part_count-table g.row.N bytes (parts_of bytes) c.self.invariant in
    let within : c.args.i < part_count bytes = omega (arith, count, c.requires) in
    ap (λ (l : List (List ℕ)). slice_get l c.args.i) (sym c.self.view_is) ∙ slice_get-parts_of bytes c.args.i within ∙ ap (λ (l : List ℕ). Some l) (sym c.part.ensures)
