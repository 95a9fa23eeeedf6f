use Rattle.std.proofs.Common.{ap, sym, ◌∙◌, arith}
use Rattle.std.specs.Prelude.{slice_get}
use Rattle.chain_defs.specs.Shape.{encoded}
use Rattle.chain_defs.specs.Schema.{cell_dep, RawTransaction}
use Rattle.chain_defs.proofs.RowLaws.{cell_dep-check}
use Rattle.tx_rules.proofs.AllThere.{slice_get-image}
use Rattle.tx_rules.proofs.form.dep_at.Goals as goal

pub array_of-requires : goal.array_of-requires
array_of-requires c = (omega arith, cell_dep-check.complete c.bytes.result.now c.cell_deps_item.result c.bytes.ensures)

pub returns : goal.returns
returns c =
    slice_get-image (encoded cell_dep) c.args.tx.now.raw.cell_deps c.args.i c.cell_deps_item.result c.array_of.result
    (ap (λ (raw : RawTransaction). slice_get raw.cell_deps c.args.i) (sym c.raw.ensures) ∙ c.cell_deps_item.ensures)
    (sym c.bytes.ensures.encoding ∙ sym c.array_of.ensures)
