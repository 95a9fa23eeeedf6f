use Rattle.std.proofs.Common.{true≢false, sym, ap, ◌∙◌, subst}
use Rattle.chain_defs.specs.Branch.{branch}
use Rattle.chain_defs.specs.Median.{median_time}
use Rattle.chain_tree.specs.Blocks.{IndexesBlocks}
use Rattle.chain_tree.specs.Told.{blocks_of}
use Rattle.tx_rules.specs.At.{AtValue}
use Rattle.outside.proofs.Endings.{handed, no_answer}
use Rattle.tx_rules.proofs.age.times_of.Goals as goal

pub returns-then-not-counts_seconds : goal.returns-then-not-counts_seconds
returns-then-not-counts_seconds c = record {
  times = λ stored rows site found is its some. absurd (true≢false (sym some ∙ sym c.counts_seconds.ensures ∙ c.if-not-counts_seconds.true));
  undamaged = λ stored rows site found is its damage same. no_answer _ _ same;
  damage = λ damage same. absurd (no_answer _ _ same);
}

pub returns-in-Ok : goal.returns-in-Ok
returns-in-Ok c = record {
  times = λ stored rows site found is its some.
      let median = c.median-median.ensures.of_blocks (blocks_of stored) (subst (λ (at : AtValue). IndexesBlocks (blocks_of stored) at.entries) (sym c.at.view_is) is.indexed)
      ∙ ap (λ (at : AtValue). median_time (branch (blocks_of stored) at.parent)) c.at.view_is ∙ ap median_time (sym is.on_branch) in
      (median, c.in-Ok.ensures.start stored rows site found is median its);
  undamaged = λ stored rows site found is its damage same. no_answer _ _ same;
  damage = λ damage same. absurd (no_answer _ _ same);
}

pub returns-in-Err : goal.returns-in-Err
returns-in-Err c = record {
  times = λ stored rows site found is its some. tt;
  undamaged = λ stored rows site found is its damage same.
      let median = c.median-median.ensures.of_blocks (blocks_of stored) (subst (λ (at : AtValue). IndexesBlocks (blocks_of stored) at.entries) (sym c.at.view_is) is.indexed)
      ∙ ap (λ (at : AtValue). median_time (branch (blocks_of stored) at.parent)) c.at.view_is ∙ ap median_time (sym is.on_branch) in
      c.in-Err.ensures.undamaged stored rows site found is median its damage (handed c.in-Err.damage _ same);
  damage = λ damage same. c.in-Err.ensures.damage damage (handed c.in-Err.damage _ same);
}
