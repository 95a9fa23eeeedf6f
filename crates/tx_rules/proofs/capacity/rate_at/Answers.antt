use Rattle.std.proofs.Common.{sym, ap, ◌∙◌, subst, arith}
use Rattle.chain_defs.specs.Dao.{DaoField}
use Rattle.chain_defs.proofs.RatedLemmas.{rated-parts}
use Rattle.tx_rules.specs.At.{AtValue, IsAtParent}
use Rattle.tx_rules.proofs.capacity.rate_at.Goals as goal

pub returns-clause-above_zero : goal.returns-clause-above_zero
returns-clause-above_zero c =
    let placed = subst (λ (at : AtValue). IsAtParent at) (sym c.at.view_is) c.requires.placed in
    let rated = rated-parts c.entry.result.now.dao (placed.rated c.args.place c.entry.result.now c.entry.ensures.entry) in
    omega (arith, rated.1, ap (λ (field : DaoField). field.rate) (c.result.view_is ∙ c.read.ensures.field))
