use Rattle.std.proofs.Common.{◌≡◌, ◌+◌, List, ℕ, ◌++◌, ◌∷◌, [], take, ap, sym, ◌∙◌, arith}
use Rattle.std.proofs.lemmas.List.{take_all}
use Rattle.verdict_defs.specs.Verdict.{joins}
use Rattle.verdict_defs.specs.Chain.{verdicts_over, chain_over}
use Rattle.made_chain.proofs.ImportLemmas.{bytes_of, count_joined, one_if, one_at_most, one-more, chain-push, count-push}
use Rattle.made_chain.proofs.counting.import_all.Goals as goal

pub importing-preserved : goal.importing-preserved
importing-preserved g c =
    let before = bytes_of (take c.importing.i c.args.items.now) in
    let item = c.deref.result.now in
    let more : bytes_of (take (c.importing.i + 1) c.args.items.now) ≡ before ++ item ∷ [] =
    one-more c.args.items.now c.importing.i c.index-items-i.result item (omega (arith, c.importing-test.true)) c.index-items-i.is c.deref.ensures.value in
    let added : c.one_if_joined-joined.result ≡ one_if (joins c.in-Ok.answer.1) = c.one_if_joined-joined.ensures in
    record {
      sound = c.in-Ok.ensures.sound;
      own = c.in-Ok.ensures.own;
      kept = c.in-Ok.ensures.kept ∙ chain-push c.args.opened.chain c.importing.node.chain before item c.importing.invariant.kept
          ∙ ap (chain_over c.args.opened.chain) (sym more);
      count = count-push c.args.opened.chain c.importing.node.chain before item c.in-Ok.answer.1 c.importing.joined c.one_if_joined-joined.result c.importing.invariant.kept
          c.importing.invariant.count c.in-Ok.ensures.verdict added
          ∙ ap (λ (items : List (List ℕ)). count_joined (verdicts_over c.args.opened.chain items)) (sym more);
      few = omega (arith, c.importing.invariant.few, added, one_at_most (joins c.in-Ok.answer.1));
    }

pub returns-clause-kept : goal.returns-clause-kept
returns-clause-kept g c =
    c.importing.invariant.kept
    ∙ ap (λ (items : List _). chain_over c.args.opened.chain (bytes_of items)) (take_all c.importing.i c.args.items.now (omega (arith, c.importing-test.false)))

pub returns-clause-count : goal.returns-clause-count
returns-clause-count g c =
    c.importing.invariant.count
    ∙ ap (λ (items : List _). count_joined (verdicts_over c.args.opened.chain (bytes_of items))) (take_all c.importing.i c.args.items.now (omega (arith, c.importing-test.false)))
