use Rattle.std.proofs.Common.{◌≡◌, pos, ◌-ℤ◌, sym, ap, ◌∙◌, arith}
use Rattle.std.proofs.lemmas.Int.{ints}
use Rattle.supply_defs.specs.Laws.{supply_balance, occupied_balance}
use Rattle.supply.proofs.totals.Totals.left.Goals as goal

pub returns-clause-supply : goal.returns-clause-supply
returns-clause-supply c =
    let issued : c.dao.inside.c ≡ c.args.dao.now.issued = ap (λ field. field.issued) c.dao.view_is in
    let saved : c.dao.inside.s ≡ c.args.dao.now.savings = ap (λ field. field.savings) c.dao.view_is in
    omega (arith, ints, issued, saved, c.from.ensures, c.from-2.ensures, c.requires.live, c.requires.unpaid, c.requires.burned)

pub returns-clause-occupied : goal.returns-clause-occupied
returns-clause-occupied c =
    let occupied : c.dao.inside.u ≡ c.args.dao.now.occupied = ap (λ field. field.occupied) c.dao.view_is in
    omega (arith, ints, occupied, c.from-3.ensures, c.requires.occupied)

pub returns-clause-balances : goal.returns-clause-balances
unfolding supply_balance occupied_balance
returns-clause-balances c spec branch are last =
    (λ i. (returns-clause-supply c i, returns-clause-occupied c i))
    ∙ (λ i. (
      pos (sym last i).issued -ℤ pos (sym last i).savings -ℤ pos (are.sums i).live -ℤ pos (are.sums i).unpaid -ℤ pos (are.sums i).burned,
      pos (sym last i).occupied -ℤ pos (are.sums i).occupied,
    ))
