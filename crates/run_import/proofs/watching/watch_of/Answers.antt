use Rattle.std.proofs.Common.{ℕ, List, Option, Some, sym, ap, ◌∙◌, subst}
use Rattle.cell_state.specs.State.{StateValue, rows}
use Rattle.run_import.specs.Watching.{IsWatching}
use Rattle.run_import.proofs.WatchLemmas.{watching-is}
use Rattle.run_import.proofs.watching.watch_of.Goals as goal

pub returns : goal.returns
returns c live =
    let kept = c.args.node.now.chain.blocks in
    let is_tip = c.tip-tip.ensures.of_blocks kept c.tree.ensures.indexed in
    subst (λ (watched : Option (List ℕ)). IsWatching watched kept (Some c.in_ok-balance.balance)) (sym c.in-Some.is)
    (watching-is c.in-Some.lock kept c.in_ok-balance.balance (record {
      tip = c.tip-tip.result;
      is_tip = is_tip;
      stands = c.in_ok-balance.ensures kept c.tip-tip.result (λ o. ap (λ (s : StateValue). rows s o) c.state.ensures.cells ∙ live c.tip-tip.result is_tip o);
    }))
