use Rattle.chain_defs.specs.Tip.{best_branch}
use Rattle.ask_defs.specs.Answers.{committed_on, committed_line}
use Rattle.run_ask.proofs.answers.transaction_line.Goals as goal

pub returns-clause-text : goal.returns-clause-text
returns-clause-text c = λ indexes.
    let kept = c.args.node.now.chain.blocks in
    c.line_or_stop.ensures.text (committed_line (committed_on (best_branch kept) c.args.hash.now)) (c.line_of_committed.ensures kept c.args.hash.now (c.find_committed-found.ensures indexes))
