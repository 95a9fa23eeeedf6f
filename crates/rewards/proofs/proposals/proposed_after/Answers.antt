use Rattle.std.proofs.Common.{◌≡◌, ℕ, ◌+◌, ◌-◌, ◌≤◌, pos, ap, ◌∙◌, arith}
use Rattle.std.specs.List.{sum_by, range_with_len}
use Rattle.std.specs.Str.{bytes_eq}
use Rattle.std.specs.HashMap.{get}
use Rattle.chain_defs.specs.Dao.{as_u64}
use Rattle.chain_defs.specs.Branch.{branch}
use Rattle.chain_tree.specs.Told.{blocks_of}
use Rattle.rule_defs.specs.Reward.{proposer_part}
use Rattle.outside.proofs.Endings.{no_answer}
use Rattle.chain_tree.proofs.ReadLemmas.{unread, read_on}
use Rattle.rewards.proofs.ReadLemmas.{tells_still}
use Rattle.rewards.proofs.StartLemmas.{window-order}
use Rattle.rewards.proofs.PartLemmas.{part-more, part-whole}
use Rattle.rewards.proofs.proposals.proposed_after.Goals as goal

pub commits-init : goal.commits-init
commits-init g c = record {
  read = unread c.args.blocks.now;
  sum = λ stored asked tells asks starts.
      let none : 0 ≡ c.args.proposer + c.from.result - (c.args.proposer + c.from.result) = omega arith in
      ap (λ (n : ℕ). as_u64 (pos (sum_by (proposer_part c.args.spec.now (branch (blocks_of stored) c.args.parent) c.args.proposer)
      (range_with_len (c.args.proposer + c.from.result) n)))) none;
}

pub commits-preserved : goal.commits-preserved
commits-preserved g c = record {
  read = read_on c.commits.invariant.read c.in-Ok.ensures.read;
  sum = λ stored asked tells asks starts.
      let close : c.args.proposer + c.from.result ≡ c.args.proposer + c.args.spec.now.w_close =
      ap (λ (n : ℕ). c.args.proposer + n) (c.from.ensures ∙ ap (λ spec. spec.w_close) c.spec.view_is) in
      let far : c.from-2.result ≡ c.args.spec.now.w_far = c.from-2.ensures ∙ ap (λ spec. spec.w_far) c.spec.view_is in
      part-more c.args.spec.now (branch (blocks_of stored) c.args.parent) asked c.args.proposer (c.args.proposer + c.from.result) c.commits.height
      (get bytes_eq c.args.starts.now) _ _ _ asks starts close c.commits.auto.height (omega (arith, c.commits-test.true, far))
      (c.commits.invariant.sum stored asked tells asks starts) (c.in-Ok.ensures.sum c.args.spec.now stored (tells_still c.commits.invariant.read.told tells)) c.plus-sum.ensures;
}

pub returns-in-Err : goal.returns-in-Err
returns-in-Err g c = record {
  read = read_on c.commits.invariant.read c.in-Err.ensures.read;
  of_block = λ stored tells. c.in-Err.ensures.of_block stored (c.commits.invariant.read.told ∙ tells);
  sum = λ stored asked tells asks starts. c.in-Err.ensures.sum c.args.spec.now stored (tells_still c.commits.invariant.read.told tells);
}

pub returns : goal.returns
returns g c = record {
  read = c.commits.invariant.read;
  of_block = λ stored tells damage same. absurd (no_answer _ _ same);
  sum = λ stored asked tells asks starts.
      let close : c.from.result ≡ c.args.spec.now.w_close = c.from.ensures ∙ ap (λ spec. spec.w_close) c.spec.view_is in
      let far : c.from-2.result ≡ c.args.spec.now.w_far = c.from-2.ensures ∙ ap (λ spec. spec.w_far) c.spec.view_is in
      let order : c.spec.inside.w_close ≤ c.spec.inside.w_far = window-order c.spec.inside.w_close c.spec.inside.w_far c.spec.invariant.s3 in
      let within : c.args.proposer + c.from.result ≤ c.args.proposer + c.from-2.result + 1 = omega (arith, order, c.from.ensures, c.from-2.ensures) in
      let count : c.commits.height - (c.args.proposer + c.from.result) ≡ c.args.spec.now.w_far + 1 - c.args.spec.now.w_close =
      omega (arith, c.commits-test.false, c.commits.auto.height-end within, close, far) in
      c.commits.invariant.sum stored asked tells asks starts
      ∙ ap (λ (n : ℕ). as_u64 (pos n)) (part-whole c.args.spec.now (branch (blocks_of stored) c.args.parent) c.args.proposer (c.args.proposer + c.from.result)
      c.commits.height (ap (λ (n : ℕ). c.args.proposer + n) close) count);
}
