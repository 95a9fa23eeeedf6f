use Rattle.std.proofs.Common.{◌≡◌, ℕ, ◌+◌, ◌<◌, ◌≤◌, ◌⊎◌, inl, inr, true, List, sym, ap, subst, ◌∙◌, arith}
use Rattle.std.specs.List.{Contains}
use Rattle.std.specs.Str.{bytes_eq}
use Rattle.std.specs.HashSet.{contains}
use Rattle.std.proofs.lemmas.Bool.{cases_lt}
use Rattle.chain_defs.specs.Branch.{branch}
use Rattle.chain_tree.specs.Told.{blocks_of}
use Rattle.chain_tree.proofs.ReadLemmas.{unread, read_on}
use Rattle.outside.proofs.Endings.{handed, no_answer}
use Rattle.rule_defs.specs.Fees.{Paid, paid_at}
use Rattle.rewards.proofs.ReadLemmas.{tells_still, undamaged_is}
use Rattle.rewards.proofs.CommitLemmas.{one-height}
use Rattle.rewards.proofs.committed.committed_after.Goals as goal

pub commits-init : goal.commits-init
commits-init g c = record {
  read = unread c.args.blocks.now;
  among = λ stored tells commit paid from below there. absurd (omega (arith, from, below));
}

pub commits-preserved : goal.commits-preserved
commits-preserved g c = record {
  read = read_on c.commits.invariant.read c.in-Ok.ensures.read;
  among = λ stored tells commit paid from below there.
      one-height (paid_at c.args.spec.now (branch (blocks_of stored) c.args.parent)) (contains bytes_eq c.commits.committed) (contains bytes_eq c.add_at.new.committed)
      c.commits.height commit paid c.in-Ok.ensures.kept
      (c.in-Ok.ensures.added c.args.spec.now stored (tells_still c.commits.invariant.read.told tells))
      (λ less. c.commits.invariant.among stored tells commit paid from less there) below there;
}

pub returns-in-Err : goal.returns-in-Err
returns-in-Err g c = record {
  read = read_on c.commits.invariant.read c.in-Err.ensures.read;
  undamaged = λ stored tells damage same. c.in-Err.ensures.undamaged stored (c.commits.invariant.read.told ∙ tells) damage (handed c.in-Err.stop _ same);
  asked = λ stored tells. undamaged_is c.in-Err.stop (λ damage same. c.in-Err.ensures.undamaged stored (c.commits.invariant.read.told ∙ tells.is) damage same);
}

pub returns : goal.returns
returns g c = record {
  read = c.commits.invariant.read;
  undamaged = λ stored tells damage same. no_answer _ _ same;
  asked = λ stored tells commit paid close far there.
      let low : c.from.result ≡ c.args.spec.now.w_close = c.from.ensures ∙ ap (λ spec. spec.w_close) c.spec.view_is in
      let high : c.from-2.result ≡ c.args.spec.now.w_far = c.from-2.ensures ∙ ap (λ spec. spec.w_far) c.spec.view_is in
      c.commits.invariant.among stored tells commit paid (omega (arith, low, close)) (omega (arith, high, far, c.commits-test.false)) there;
}
