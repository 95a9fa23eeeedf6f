use Rattle.std.proofs.Common.{◌≡◌, ℕ, ◌+◌, ◌-◌, ◌≤◌, refl, ap, subst, ◌∙◌, arith}
use Rattle.std.specs.Str.{bytes_eq}
use Rattle.std.specs.HashMap.{get}
use Rattle.chain_defs.specs.Branch.{branch}
use Rattle.chain_tree.specs.Told.{blocks_of}
use Rattle.chain_tree.proofs.EntryLemmas.{there-within}
use Rattle.proposal_window.proofs.BranchLemmas.{proposes-at-place}
use Rattle.outside.proofs.Endings.{no_answer}
use Rattle.chain_tree.proofs.ReadLemmas.{unread, read_on}
use Rattle.rewards.proofs.StartLemmas.{AreMoved, moved-first, moved-by, moved-next, window-order, starts-all}
use Rattle.rewards.proofs.starts.move_over.Goals as goal

pub lower-init : goal.lower-init
lower-init g c = record {
  read = unread c.args.blocks.now;
  moved = λ stored asked tells indexes starts.
      moved-first c.args.spec.now.w_far (branch (blocks_of stored) c.args.parent) asked c.args.proposer c.saturating_sub-low.result (get bytes_eq c.args.starts.now) starts;
}

pub lower-preserved : goal.lower-preserved
lower-preserved g c = record {
  read = read_on c.lower.invariant.read c.in-Ok.ensures.read;
  moved = λ stored asked tells indexes starts.
      moved-next c.args.spec.now.w_far (branch (blocks_of stored) c.args.parent) asked c.args.proposer c.saturating_sub-low.result c.lower.height
      (get bytes_eq c.lower.starts) (get bytes_eq c.move_at.new.starts) (c.lower.invariant.moved stored asked tells indexes starts) c.lower.auto.height
      (λ id. moved-by c.lower.height c.args.spec.now.w_far _ _ _ (get bytes_eq c.lower.starts id) _
      (c.in-Ok.ensures.moved stored (c.lower.invariant.read.told ∙ tells) id)
      (proposes-at-place (blocks_of stored) c.args.tree.now.entries id c.args.parent c.lower.height c.ancestor-place.result _ indexes
      (there-within c.args.tree.now.entries c.args.parent (λ entry. c.args.proposer ≤ entry.number) c.requires.proposer)
      (c.ancestor-place.ensures.of_blocks (blocks_of stored) indexes) refl) (ap (λ (n : ℕ). c.lower.height + n + 1) (c.from-far.ensures ∙ ap (λ spec. spec.w_far) c.spec.view_is)));
}

pub returns-in-Err : goal.returns-in-Err
returns-in-Err g c = record {
  read = read_on c.lower.invariant.read c.in-Err.ensures.read;
  undamaged = λ stored tells. c.in-Err.ensures.undamaged stored (c.lower.invariant.read.told ∙ tells);
  starts = λ stored asked tells indexes starts. c.in-Err.ensures.moved stored (c.lower.invariant.read.told ∙ tells);
}

pub returns : goal.returns
returns g c = record {
  read = c.lower.invariant.read;
  undamaged = λ stored tells damage same. no_answer _ _ same;
  starts = λ stored asked tells indexes starts.
      let close : c.from.result ≡ c.args.spec.now.w_close = c.from.ensures ∙ ap (λ spec. spec.w_close) c.spec.view_is in
      let far : c.from-far.result ≡ c.args.spec.now.w_far = c.from-far.ensures ∙ ap (λ spec. spec.w_far) c.spec.view_is in
      let low : c.saturating_sub-low.result ≡ c.args.proposer + c.args.spec.now.w_close - c.args.spec.now.w_far =
      c.saturating_sub-low.ensures ∙ (λ i. c.args.proposer + close i - far i) in
      let order : c.spec.inside.w_close ≤ c.spec.inside.w_far = window-order c.spec.inside.w_close c.spec.inside.w_far c.spec.invariant.s3 in
      let below : c.saturating_sub-low.result ≤ c.args.proposer = omega (arith, order, c.from.ensures, c.from-far.ensures, c.saturating_sub-low.ensures) in
      let whole : c.lower.height ≡ c.args.proposer = omega (arith, c.lower-test.false, c.lower.auto.height-end below) in
      starts-all c.args.spec.now (branch (blocks_of stored) c.args.parent) asked c.args.proposer c.saturating_sub-low.result (get bytes_eq c.lower.starts) low
      (subst (λ (n : ℕ). AreMoved c.args.spec.now.w_far (branch (blocks_of stored) c.args.parent) asked c.args.proposer c.saturating_sub-low.result n (get bytes_eq c.lower.starts)) whole
      (c.lower.invariant.moved stored asked tells indexes starts));
}
