use Rattle.std.proofs.Common.{◌≡◌, ℕ, ◌<◌, Some, ◌++◌, List, length, take, ap, sym, ◌∙◌, subst, arith}
use Rattle.std.specs.Prelude.{IsSome, slice_get}
use Rattle.std.proofs.lemmas.List.{take_all}
use Rattle.outside.proofs.Endings.{handed, no_answer}
use Rattle.chain_defs.specs.Schema.{Block}
use Rattle.chain_defs.specs.Kept.{block_at}
use Rattle.chain_defs.specs.Branch.{branch_places}
use Rattle.chain_defs.specs.Tip.{best_branch}
use Rattle.chain_tree.specs.Blocks.{IndexesBlocks}
use Rattle.chain_tree.proofs.BlockLemmas.{len-same}
use Rattle.chain_tree.proofs.ReadLemmas.{unread, read_on}
use Rattle.node_store.specs.Kept.{KeptValue}
use Rattle.node_store.proofs.QueryLemmas.{best-long, block-at}
use Rattle.transaction_index.specs.declared.row.Row.{Row}
use Rattle.transaction_index.specs.Rows.{rows_at, rows_of, AreInOrder}
use Rattle.run_ask.proofs.IndexLemmas.{rows_push, blocks-to, number-at}
use Rattle.run_ask.proofs.OrderLemmas.{rows-order}
use Rattle.run_ask.proofs.over_blocks.committed_rows.Goals as goal

pub heights-init : goal.heights-init
heights-init g c = record { read = unread c.args.blocks.now; rows = λ tells. c.new-rows.ensures.items }

pub returns-in-Err : goal.returns-in-Err
returns-in-Err g c = record {
  read = read_on c.heights.invariant.read c.in-Err.ensures.read;
  rows = λ tells. tt;
  undamaged = λ tells damage same. c.in-Err.ensures.undamaged (subst (λ told. IsSome told) (sym c.heights.invariant.read.told) tells) damage (handed c.in-Err.stop _ same);
}

pub take_rows-requires-clause-within : goal.take_rows-requires-clause-within
take_rows-requires-clause-within g c =
    let kept = c.args.kept.now.chain.blocks in
    let entries = c.kept.inside.tree.entries in
    let indexed : IndexesBlocks kept entries =
    subst (λ (l : List Block). IndexesBlocks l entries) (ap (λ (v : KeptValue). v.chain.blocks) c.kept.view_is) c.kept.invariant.indexed in
    omega (arith, c.ancestor-place.ensures.within, len-same kept entries indexed)

pub take_rows-requires-clause-counts : goal.take_rows-requires-clause-counts
take_rows-requires-clause-counts g c = c.heights.invariant.read.count ∙ c.requires.counts

pub heights-preserved : goal.heights-preserved
heights-preserved g c = record {
  read = read_on c.heights.invariant.read c.in-Ok.ensures.read;
  rows = λ tells.
      let kept = c.args.kept.now.chain.blocks in
      let entries = c.kept.inside.tree.entries in
      let indexed : IndexesBlocks kept entries =
      subst (λ (l : List Block). IndexesBlocks l entries) (ap (λ (v : KeptValue). v.chain.blocks) c.kept.view_is) c.kept.invariant.indexed in
      let is_tip = c.tip-tip.ensures.of_blocks kept indexed in
      let at = ap (λ (n : ℕ). slice_get (branch_places kept c.tip-tip.result) n) (sym c.from.ensures) ∙ c.ancestor-place.ensures.of_blocks kept indexed in
      let same : block_at kept c.ancestor-place.result ≡ block_at (best_branch kept) c.heights.height =
      block-at kept entries c.tip-tip.result indexed is_tip c.heights.height c.ancestor-place.result c.tip-tip.ensures.within at in
      let here = c.in-Ok.ensures.added (c.heights.invariant.read.told ∙ tells) in
      let there : block_at (best_branch kept) c.heights.height ≡ Some here.0 = sym same ∙ here.1 in
      let within : c.tip-tip.result < length kept = omega (arith, c.tip-tip.ensures.within, len-same kept entries indexed) in
      let number : here.0.header.number ≡ c.heights.height =
      number-at kept c.tip-tip.result c.heights.height here.0 indexed.is_kept indexed.genesis within is_tip there in
      here.2 ∙ ap (λ (rows : List Row). rows ++ rows_at c.heights.height here.0) (c.heights.invariant.rows tells)
      ∙ ap (λ (n : ℕ). rows_of (take c.heights.height (best_branch kept)) ++ rows_at n here.0) (sym number)
      ∙ sym (ap rows_of (blocks-to (best_branch kept) c.heights.height here.0 there) ∙ rows_push (take c.heights.height (best_branch kept)) here.0);
}

pub returns-clause-read : goal.returns-clause-read
returns-clause-read g c = c.heights.invariant.read

pub returns-clause-undamaged : goal.returns-clause-undamaged
returns-clause-undamaged g c = λ tells damage same. no_answer _ _ same

pub returns-clause-rows : goal.returns-clause-rows
returns-clause-rows g c = λ tells.
    let kept = c.args.kept.now.chain.blocks in
    let entries = c.kept.inside.tree.entries in
    let indexed : IndexesBlocks kept entries =
    subst (λ (l : List Block). IndexesBlocks l entries) (ap (λ (v : KeptValue). v.chain.blocks) c.kept.view_is) c.kept.invariant.indexed in
    let is_tip = c.tip-tip.ensures.of_blocks kept indexed in
    let long = best-long kept entries c.tip-tip.result indexed is_tip c.entry.result.now c.entry.ensures.entry in
    let within : c.tip-tip.result < length kept = omega (arith, c.tip-tip.ensures.within, len-same kept entries indexed) in
    let all : c.heights.rows.items ≡ rows_of (best_branch kept) =
    c.heights.invariant.rows tells
    ∙ ap rows_of (take_all c.heights.height (best_branch kept) (omega (arith, long, c.heights-test.false, c.heights.auto.height-end))) in
    record {
      all = all;
      in_order = subst AreInOrder (sym all) (rows-order 0 (best_branch kept) (λ height b there.
          let number = number-at kept c.tip-tip.result height b indexed.is_kept indexed.genesis within is_tip there in omega (arith, number)));
    }
