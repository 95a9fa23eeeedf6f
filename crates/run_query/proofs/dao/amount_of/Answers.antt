use Rattle.std.proofs.Common.{◌≡◌, sym, ap, ◌∙◌, arith}
use Rattle.node_store.specs.Queries.{FetchedValue}
use Rattle.run_query.proofs.QueryLemmas.{height-below, holds, is-deposit, is-withdrawing, below-its-own}
use Rattle.run_query.proofs.dao.amount_of.Goals as goal

pub returns-in-Deposit-clause-undamaged : goal.returns-in-Deposit-clause-undamaged
returns-in-Deposit-clause-undamaged c = λ cell joined live copied state damage is.
    let at : c.found.inside.height ≡ cell.height = ap (λ (it : FetchedValue). it.height) c.found.view_is ∙ copied.height in
    let below = height-below c.args.node.now.chain cell live in
    c.withdrawn.ensures.undamaged cell copied (holds c.args.node.now.chain cell joined live (is-deposit c.args.node.now.chain.spec cell (sym state ∙ c.in-Deposit.is)))
    (omega (arith, c.height.ensures)) (omega (arith, at, below)) damage is

pub returns-in-Withdrawing-clause-undamaged : goal.returns-in-Withdrawing-clause-undamaged
returns-in-Withdrawing-clause-undamaged c = λ cell joined live copied state damage is.
    let at : c.found.inside.height ≡ cell.height = ap (λ (it : FetchedValue). it.height) c.found.view_is ∙ copied.height in
    let below = height-below c.args.node.now.chain cell live in
    let named = sym state ∙ c.in-Withdrawing.is in
    let deposit = below-its-own c.args.node.now.chain.spec cell c.in-Withdrawing.deposit named in
    c.withdrawn-in-Withdrawing.ensures.undamaged cell copied
    (holds c.args.node.now.chain cell joined live (is-withdrawing c.args.node.now.chain.spec cell c.in-Withdrawing.deposit named))
    (omega (arith, at, below)) (omega (arith, deposit, below)) damage is
