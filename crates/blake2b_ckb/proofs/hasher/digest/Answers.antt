use Rattle.std.proofs.Common.{rules, ◌≡◌, arith, sym, ◌∙◌}
use Rattle.std.proofs.lemmas.List.{take_all}
use Rattle.std.proofs.lemmas.Slice.{overwrites}
use Rattle.blake2b_ckb.proofs.Absorbing.{digest_more}
use Rattle.blake2b_ckb.proofs.hasher.digest.Goals as goal

pub words-preserved : goal.words-preserved
words-preserved c = (
  search (rules, overwrites),
  digest_more c.words.out c.args.state.now _ c.words.i _ c.words.invariant.1 (omega arith) (omega arith)
      (c.copy_from_slice.ensures.after ∙ c.to_le_bytes.ensures),
)

pub returns : goal.returns
returns c =
    let done : c.words.i ≡ 4 = omega arith in
    sym (take_all 32 c.words.out (omega arith)) ∙ rw done at c.words.invariant.1
