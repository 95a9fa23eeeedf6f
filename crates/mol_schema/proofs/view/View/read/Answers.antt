use Rattle.std.proofs.Common.{Some, ap, ◌∙◌, arith}
use Rattle.std.proofs.lemmas.Bool.{iff_false}
use Rattle.chain_defs.proofs.ShapeLaws.{read-some, read-none}
use Rattle.mol_schema.proofs.view.View.read.Goals as goal

pub returns-then-is_encoding-clause-value : goal.returns-then-is_encoding-clause-value
returns-then-is_encoding-clause-value g c =
    let checked = c.is_encoding.ensures.0 c.if-is_encoding.true in
    ap Some c.from_checked.ensures ∙ read-some g.R.Row.shape g.met.R.Row.is_check c.args.b.now (λ i. omega (arith, c.type_inv.b i)) checked

pub returns-else-is_encoding-clause-value : goal.returns-else-is_encoding-clause-value
returns-else-is_encoding-clause-value g c = read-none g.R.Row.shape g.met.R.Row.is_check c.args.b.now (iff_false c.is_encoding.ensures c.if-is_encoding.false)
