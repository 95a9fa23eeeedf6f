use Rattle.std.proofs.Common.{◌≡◌, Some, refl, arith, ap, sym, ◌∙◌, subst}
use Rattle.std.specs.Prelude.{slice_get, IsTrue}
use Rattle.std.proofs.lemmas.Option.{slice_get_past, slice_get_read}
use Rattle.cell_state.specs.Copies.{ResolvedValue}
use Rattle.verdict_defs.specs.Items.{output_of}
use Rattle.script_run.specs.Fitting.{is_typed}
use Rattle.script_run.proofs.LookLemmas.{none-there, shown-copy, row-tells-output, same-output}
use Rattle.script_run.proofs.items.part_of_copy.Goals as goal

pub returns-then-i-copies : goal.returns-then-i-copies
returns-then-i-copies c cells zip = none-there _ _ c.args.copies.now cells c.args.i zip (slice_get_past c.args.copies.now c.args.i (omega arith))

pub output_of-requires : goal.output_of-requires
output_of-requires c = record { typed = subst (λ (copy : ResolvedValue). IsTrue (is_typed copy)) (sym c.index-copies-i.is) (c.requires c.args.i c.index-copies-i.result (omega arith)) }

pub returns : goal.returns
returns c cells zip =
    let here : slice_get c.args.copies.now c.args.i ≡ Some c.index-copies-i.result = slice_get_read c.args.copies.now _ c.args.i c.index-copies-i.result refl (omega arith) c.index-copies-i.is in
    let content : c.deref.result.now ≡ c.index-copies-i.result.content = c.deref.ensures.value ∙ ap (λ (r : ResolvedValue). r.content) c.copy.view_is in
    shown-copy cells c.args.copies.now c.args.i c.index-copies-i.result c.args.part c.part_of.result zip here
    (λ cell is. c.part_of.ensures (output_of cell) (same-output c.index-copies-i.result cell c.output_of.result is c.output_of.ensures) (content ∙ is.content)
    (row-tells-output c.index-copies-i.result c.copy.inside.meta cell (ap (λ (r : ResolvedValue). r.row) c.copy.view_is) is))
