use Rattle.std.proofs.Common.{◌≡◌, ℕ, ◌+◌, List, sym, ap, ◌∙◌, subst}
use Rattle.chain_defs.specs.Row.{live_row}
use Rattle.chain_defs.specs.ByLock.{cells_by_lock}
use Rattle.chain_tree.specs.Told.{blocks_of}
use Rattle.cell_index.specs.Balance.{BalanceValue, sum_of, Changes}
use Rattle.cell_index.proofs.BalanceLemmas.{sums-move, sum-taken-back}
use Rattle.cell_index.proofs.balance.BalanceFollows.taken_back.Goals as goal

pub returns-in-Ok-exchanged-clause-stands : goal.returns-in-Ok-exchanged-clause-stands
returns-in-Ok-exchanged-clause-stands g c what stored parent tells step is =
    let kept = blocks_of stored in
    let change = c.in-Ok.change in
    let own : c.self.inside.lock ≡ what = ap (λ (b : BalanceValue). b.lock) c.self.view_is ∙ is.lock_is in
    let changes : Changes what (live_row kept parent) (live_row kept c.args.place) change.spent change.left =
    subst (λ (l : List ℕ). Changes l (live_row kept parent) (live_row kept c.args.place) change.spent change.left) own (c.in-Ok.ensures.changes stored parent tells step) in
    record {
      lock_is = own;
      sum_is = sum-taken-back what kept parent c.args.place change.spent change.left c.self.inside.sum c.in-Ok-exchanged.sum changes
          (ap (λ (b : BalanceValue). b.sum) c.self.view_is ∙ is.sum_is) c.in-Ok-exchanged.ensures.count c.in-Ok-exchanged.ensures.capacity;
    }

pub returns-in-Err-Odd-clause-undamaged : goal.returns-in-Err-Odd-clause-undamaged
returns-in-Err-Odd-clause-undamaged g c what stored parent tells step is damage same =
    let kept = blocks_of stored in
    let change = c.in-Ok.change in
    let own : c.self.inside.lock ≡ what = ap (λ (b : BalanceValue). b.lock) c.self.view_is ∙ is.lock_is in
    let changes : Changes what (live_row kept parent) (live_row kept c.args.place) change.spent change.left =
    subst (λ (l : List ℕ). Changes l (live_row kept parent) (live_row kept c.args.place) change.spent change.left) own (c.in-Ok.ensures.changes stored parent tells step) in
    let moves = sums-move what kept parent c.args.place change.spent change.left changes in
    let sum : c.self.inside.sum ≡ sum_of (cells_by_lock kept c.args.place what) = ap (λ (b : BalanceValue). b.sum) c.self.view_is ∙ is.sum_is in
    c.in-Err-Odd.ensures.odd (sum_of (cells_by_lock kept parent what)) (sym moves.0 ∙ ap (λ (s : ℕ × ℕ). s.0 + change.spent.0) (sym sum))
    (sym moves.1 ∙ ap (λ (s : ℕ × ℕ). s.1 + change.spent.1) (sym sum)) (let odd = c.in-Err-Odd.field-0-is in cc)
