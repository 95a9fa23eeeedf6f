use Rattle.std.proofs.Common.{ℕ, ◌++◌, ap, ◌∙◌, rules}
use Rattle.uncle_rules.specs.Embedded.{embedded_in}
use Rattle.node_store.proofs.kept.put.Goals as goal

pub returns-clause-uncles : goal.returns-clause-uncles
returns-clause-uncles c = λ kept indexed.
    c.in-Ok.ensures ∙ ap (λ (n : ℕ). c.args.uncles.now.embedded ++ embedded_in n c.args.block.now) (c.len.ensures.of_blocks kept indexed)

pub returns-in-Err-clause-blocks : goal.returns-in-Err-clause-blocks
returns-in-Err-clause-blocks c = tt

pub returns-in-Err-clause-entries : goal.returns-in-Err-clause-entries
returns-in-Err-clause-entries c = tt

pub returns-in-Err-clause-indexed : goal.returns-in-Err-clause-indexed
returns-in-Err-clause-indexed c = λ _ _ _ _ _. tt

pub returns-in-Err-clause-uncles : goal.returns-in-Err-clause-uncles
returns-in-Err-clause-uncles c = λ _ _. tt

pub returns-in-Err-reserve-clause-blocks : goal.returns-in-Err-reserve-clause-blocks
returns-in-Err-reserve-clause-blocks c = tt

pub returns-in-Err-reserve-clause-entries : goal.returns-in-Err-reserve-clause-entries
returns-in-Err-reserve-clause-entries c = tt

pub returns-in-Err-reserve-clause-indexed : goal.returns-in-Err-reserve-clause-indexed
returns-in-Err-reserve-clause-indexed c = λ _ _ _ _ _. tt

pub returns-in-Err-reserve-clause-uncles : goal.returns-in-Err-reserve-clause-uncles
returns-in-Err-reserve-clause-uncles c = λ _ _. tt

pub returns-in-Err-push-clause-blocks : goal.returns-in-Err-push-clause-blocks
returns-in-Err-push-clause-blocks c = tt

pub returns-in-Err-push-clause-entries : goal.returns-in-Err-push-clause-entries
returns-in-Err-push-clause-entries c = tt

pub returns-in-Err-push-clause-indexed : goal.returns-in-Err-push-clause-indexed
returns-in-Err-push-clause-indexed c = λ _ _ _ _ _. tt

pub returns-in-Err-push-clause-uncles : goal.returns-in-Err-push-clause-uncles
returns-in-Err-push-clause-uncles c = λ _ _. tt

pub returns-clause-blocks : goal.returns-clause-blocks
returns-clause-blocks c = search rules
