use Rattle.std.proofs.Common.{List, ℕ, ◌<◌, length, ap, sym, ◌∙◌, arith, Some}
use Rattle.std.specs.Prelude.{slice_get}
use Rattle.chain_defs.specs.Molecule.{header_number, items_of_fixvec}
use Rattle.mol_schema.proofs.Reading.{IsCounted-from_fixvec, length-items_of_fixvec, slice_get-items_of_fixvec}
use Rattle.mol_schema.proofs.fixvec.FixView.item.Goals as goal

pub item_at-requires-clause-counted : goal.item_at-requires-clause-counted
item_at-requires-clause-counted c =
    let bytes = c.self.inside.bytes.now in
    let size = c.self.inside.item in
    IsCounted-from_fixvec size bytes (items_of_fixvec size bytes) c.self.invariant

pub item_at-requires-clause-within : goal.item_at-requires-clause-within
item_at-requires-clause-within c = omega (arith, length-items_of_fixvec c.self.inside.item c.self.inside.bytes.now, ap length c.self.view_is, c.requires)

pub returns : goal.returns
returns c =
    let bytes = c.self.inside.bytes.now in
    let size = c.self.inside.item in
    let within : c.args.i < header_number bytes 0 = omega (arith, length-items_of_fixvec size bytes, ap length c.self.view_is, c.requires) in
    ap (λ (l : List (List ℕ)). slice_get l c.args.i) (sym c.self.view_is) ∙ slice_get-items_of_fixvec size bytes c.args.i within ∙ ap (λ (l : List ℕ). Some l) (sym c.item_at.ensures)
