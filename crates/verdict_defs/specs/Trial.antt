-- What comes of a transaction that is judged alone, after the last block of the best branch (docs/COMMANDS.md, "The text").
use Rattle.std.specs.Prelude.{ℕ, List, Option, Some, None, Result, Ok, Err}
use Rattle.chain_defs.specs.Shape.{decoded}
use Rattle.chain_defs.specs.Schema.{Transaction, Block, transaction}
use Rattle.chain_defs.specs.Specification.{Specification}
use Rattle.chain_defs.specs.Tip.{best_branch}
use Rattle.rule_defs.specs.Site.{site_after}
use Rattle.verdict_defs.specs.Judged.{Passed, judged_alone}
use Rattle.verdict_defs.specs.Chain.{Chain}
use Rattle.verdict_defs.specs.declared.trial.Trial.{Trial}
use Rattle.verdict_defs.specs.declared.trial.Trial.TheVariants.{Passes, Refused}

-- the first rule that it breaks, or its fee and the cycles that its scripts take
abbrev pub trial_by : Result Passed ℕ → Trial
trial_by (Err rule) = Refused rule
trial_by (Ok passed) = Passes passed.fee passed.cycles

-- After a branch, with all cycles of a block: neither a proposal nor a block is asked for.
unfoldable pub trial_on : Specification → List Block → Transaction → Trial
trial_on spec branch t = trial_by (judged_alone (site_after spec branch) spec.max_cycles t)

-- J1: the item is a canonical `Transaction`.
abbrev pub trial_of : Chain → Option Transaction → Trial
trial_of chain None = Refused 1
trial_of chain (Some t) = trial_on chain.spec (best_branch chain.blocks) t

unfoldable pub trial : Chain → List ℕ → Trial
trial chain item = trial_of chain (decoded transaction item)
