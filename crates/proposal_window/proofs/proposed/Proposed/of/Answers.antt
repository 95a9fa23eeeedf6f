use Rattle.std.proofs.Common.{◌≡◌, ◌-◌, ◌||◌, sym, ap, ◌∙◌, refl, arith}
use Rattle.std.specs.List.{list_any, range_with_len}
use Rattle.std.specs.Str.{bytes_eq}
use Rattle.chain_defs.specs.Branch.{branch}
use Rattle.chain_tree.specs.Told.{blocks_of}
use Rattle.rule_defs.specs.Window.{proposes_at}
use Rattle.outside.proofs.Endings.{handed, no_answer}
use Rattle.chain_tree.proofs.ReadLemmas.{unread, read_on}
use Rattle.proposal_window.proofs.ProposedLemmas.{window-more, window-proposes}
use Rattle.proposal_window.proofs.BranchLemmas.{proposes-at-place}
use Rattle.proposal_window.proofs.proposed.Proposed.of.Goals as goal

pub window-init : goal.window-init
window-init g c = record {
  read = unread c.args.blocks.now;
  from = omega arith;
  within = λ begun. absurd (omega (arith, begun));
  added = λ stored tells indexes id.
      let none : 0 ≡ c.window_of-low.result.0 - c.window_of-low.result.0 = omega arith in
      ap (list_any (bytes_eq id)) c.new-ids.ensures.items
      ∙ ap (λ n. list_any (proposes_at (branch (blocks_of stored) c.args.parent) id) (range_with_len c.window_of-low.result.0 n)) none;
}

pub window-preserved : goal.window-preserved
window-preserved g c = record {
  read = read_on c.window.invariant.read c.in-Ok.ensures.read;
  from = let from = c.window.invariant.from in omega (arith, from);
  within = λ begun. let more = c.window-test.true in omega (arith, more);
  added = λ stored tells indexes id.
      window-more (proposes_at (branch (blocks_of stored) c.args.parent) id) c.window_of-low.result.0 c.window.proposer _ _ c.window.invariant.from
      (c.window.invariant.added stored tells indexes id)
      (c.in-Ok.ensures.put stored (c.window.invariant.read.told ∙ tells) id
      ∙ ap (λ b. list_any (bytes_eq id) c.window.ids.items || b)
      (sym (proposes-at-place (blocks_of stored) c.args.tree.now.entries id c.args.parent c.window.proposer c.ancestor-place.result _ indexes
      c.requires.parent (c.ancestor-place.ensures.of_blocks (blocks_of stored) indexes) refl)));
}

pub returns-in-Err : goal.returns-in-Err
returns-in-Err g c = record {
  read = read_on c.window.invariant.read c.in-Err.ensures.read;
  proposed = λ stored tells indexes. tt;
  undamaged = λ stored tells indexes damage same. c.in-Err.ensures.undamaged stored (c.window.invariant.read.told ∙ tells) damage (handed c.in-Err.stop _ same);
}

pub returns : goal.returns
returns g c = record {
  read = c.window.invariant.read;
  proposed = λ stored tells indexes id.
      c.of.ensures id
      ∙ window-proposes c.args.spec.now (branch (blocks_of stored) c.args.parent) id c.args.height c.window_of-low.result.0 c.window_of-low.result.1 c.window.proposer _
      c.window_of-low.ensures.low c.window_of-low.ensures.end (let past = c.window-test.false in omega (arith, past)) c.window.invariant.within
      (c.window.invariant.added stored tells indexes id);
  undamaged = λ stored tells indexes damage same. no_answer _ _ same;
}
