use Rattle.std.proofs.Common.{◌≡◌, ℕ, ◌+◌, ◌-◌, List, pos, sym, ap, subst, ◌∙◌, arith}
use Rattle.std.specs.Prelude.{IfOk}
use Rattle.chain_defs.specs.Schema.{Block}
use Rattle.chain_defs.specs.Dao.{as_u64}
use Rattle.chain_defs.specs.Branch.{branch}
use Rattle.chain_tree.specs.Told.{blocks_of}
use Rattle.chain_tree.proofs.EntryLemmas.{there-within}
use Rattle.rewards.proofs.SumLemmas.{small}
use Rattle.supply_defs.specs.Sums.{due}
use Rattle.supply.proofs.DueLemmas.{due-early, due-late, comes}
use Rattle.supply.proofs.due.due_at.Goals as goal

pub returns-then-height-delay-clause-due : goal.returns-then-height-delay-clause-due
returns-then-height-delay-clause-due g c stored tells long =
    let far : c.spec.inside.w_far ≡ c.args.spec.now.w_far = ap (λ spec. spec.w_far) c.spec.view_is in
    small 0 (omega arith)
    ∙ ap (λ (n : ℕ). as_u64 (pos n)) (sym (due-early c.args.spec.now (branch (blocks_of stored) c.args.parent)
    (omega (arith, long, far, c.if-height-delay.true, c.from-delay.ensures))))

pub reward-requires-clause-parent : goal.reward-requires-clause-parent
reward-requires-clause-parent g c = there-within c.args.tree.now.entries c.args.parent (λ entry. c.args.height ≡ entry.number + 1) c.requires.next

pub returns-clause-due : goal.returns-clause-due
returns-clause-due g c stored tells long =
    let far : c.spec.inside.w_far ≡ c.args.spec.now.w_far = ap (λ spec. spec.w_far) c.spec.view_is in
    let on : List Block = branch (blocks_of stored) c.args.parent in
    let is = due-late c.args.spec.now on (c.args.height - (c.from-delay.result + 1)) (omega (arith, long, far, c.if-height-delay.false, c.from-delay.ensures))
    (omega (arith, long, far, c.from-delay.ensures)) in
    comes (λ found. found ≡ as_u64 (pos (due c.args.spec.now on))) c.reward.result
    (subst (λ (n : ℕ). IfOk c.reward.result (λ found. found ≡ as_u64 (pos n))) (sym is) (c.reward.ensures.reward stored tells.is tells.indexes tells.own))
    (c.reward.ensures.undamaged stored tells.is tells.indexes tells.own)
