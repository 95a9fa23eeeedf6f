use Rattle.std.proofs.Common.{ℕ, Some, ap, ◌∙◌}
use Rattle.run_import.proofs.WatchLemmas.{balance-is}
use Rattle.run_import.proofs.watching.balance_of.Goals as goal

pub returns-in-Some : goal.returns-in-Some
returns-in-Some c watched chain watching =
    ap (λ (sum : ℕ × ℕ). Some sum) c.sum.ensures ∙ balance-is watched chain c.args.watch.now c.in-Some.balance c.in-Some.is watching
