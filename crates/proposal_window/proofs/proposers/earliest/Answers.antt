use Rattle.std.proofs.Common.{◌≡◌, ◌-◌, true, false, sym, ◌∙◌, refl, arith}
use Rattle.chain_defs.specs.Branch.{branch}
use Rattle.chain_tree.specs.Told.{blocks_of}
use Rattle.rule_defs.specs.Window.{proposes_at}
use Rattle.rule_defs.proofs.WindowLaws.{first-found, none-found, earliest-range}
use Rattle.outside.proofs.Endings.{handed, no_answer}
use Rattle.chain_tree.proofs.ReadLemmas.{unread, read_on}
use Rattle.proposal_window.proofs.ProposingLemmas.{one-more}
use Rattle.proposal_window.proofs.BranchLemmas.{proposes-at-place}
use Rattle.proposal_window.proofs.proposers.earliest.Goals as goal

pub window-init : goal.window-init
window-init g c = record {
  read = unread c.args.blocks.now;
  from = omega arith;
  none = λ stored tells indexes height from below. absurd (omega (arith, from, below));
}

pub returns-in-Err : goal.returns-in-Err
returns-in-Err g c = record {
  read = read_on c.window.invariant.read c.in-Err.ensures.read;
  earliest = λ stored tells indexes. tt;
  undamaged = λ stored tells indexes damage same. c.in-Err.ensures.undamaged stored (c.window.invariant.read.told ∙ tells) damage (handed c.in-Err.stop _ same);
}

pub returns-in-Ok-true : goal.returns-in-Ok-true
returns-in-Ok-true g c = record {
  read = read_on c.window.invariant.read c.in-Ok-true.ensures.read;
  earliest = λ stored tells indexes.
      let here : proposes_at (branch (blocks_of stored) c.args.parent) c.args.id.now c.window.proposer ≡ true =
      proposes-at-place (blocks_of stored) c.args.tree.now.entries c.args.id.now c.args.parent c.window.proposer c.ancestor-place.result c.in-Ok-true.field-0 indexes
      c.requires.parent (c.ancestor-place.ensures.of_blocks (blocks_of stored) indexes)
      (c.in-Ok-true.ensures.proposes stored (c.window.invariant.read.told ∙ tells)) ∙ c.in-Ok-true.field-0-test in
      let from = c.window.invariant.from in
      let below = c.window-test.true in
      sym (earliest-range c.args.spec.now (branch (blocks_of stored) c.args.parent) c.args.id.now c.args.height c.window_of-low.result.0 c.window_of-low.result.1
      c.window_of-low.ensures.low c.window_of-low.ensures.end
      ∙ first-found (proposes_at (branch (blocks_of stored) c.args.parent) c.args.id.now) c.window_of-low.result.0 (c.window_of-low.result.1 - c.window_of-low.result.0)
      c.window.proposer (record {
        from = from;
        below = omega (arith, from, below);
        passes = here;
        first = c.window.invariant.none stored tells indexes;
      }));
  undamaged = λ stored tells indexes damage same. no_answer _ _ same;
}

pub window-preserved : goal.window-preserved
window-preserved g c = record {
  read = read_on c.window.invariant.read c.in-Ok-false.ensures.read;
  from = let from = c.window.invariant.from in omega (arith, from);
  none = λ stored tells indexes height from below.
      let here : proposes_at (branch (blocks_of stored) c.args.parent) c.args.id.now c.window.proposer ≡ false =
      proposes-at-place (blocks_of stored) c.args.tree.now.entries c.args.id.now c.args.parent c.window.proposer c.ancestor-place.result c.in-Ok-false.field-0 indexes
      c.requires.parent (c.ancestor-place.ensures.of_blocks (blocks_of stored) indexes)
      (c.in-Ok-false.ensures.proposes stored (c.window.invariant.read.told ∙ tells)) ∙ c.in-Ok-false.field-0-test in
      one-more (proposes_at (branch (blocks_of stored) c.args.parent) c.args.id.now) c.window.proposer height here below
      (c.window.invariant.none stored tells indexes height from);
}

pub returns : goal.returns
returns g c = record {
  read = c.window.invariant.read;
  earliest = λ stored tells indexes.
      let past = c.window-test.false in
      sym (earliest-range c.args.spec.now (branch (blocks_of stored) c.args.parent) c.args.id.now c.args.height c.window_of-low.result.0 c.window_of-low.result.1
      c.window_of-low.ensures.low c.window_of-low.ensures.end
      ∙ none-found (proposes_at (branch (blocks_of stored) c.args.parent) c.args.id.now) c.window_of-low.result.0 (c.window_of-low.result.1 - c.window_of-low.result.0)
      (λ height from below. c.window.invariant.none stored tells indexes height from (omega (arith, from, below, past))));
  undamaged = λ stored tells indexes damage same. no_answer _ _ same;
}
