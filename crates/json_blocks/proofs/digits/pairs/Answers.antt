use Rattle.std.proofs.Common.{◌≡◌, ◌*◌, ◌+◌, ◌++◌, ◌∷◌, [], List, ℕ, ◌∙◌, sym, ap, slice_index}
use Rattle.json_blocks.specs.Digits.{value_of}
use Rattle.json_blocks.proofs.DigitLemmas.{pairs_go_on, pairs_end}
use Rattle.json_blocks.proofs.digits.pairs.Goals as goal

pub pairs-preserved : goal.pairs-preserved
pairs-preserved c =
    let s : List ℕ = c.args.digits.now in
    let i = c.pairs.i in
    let put : c.push.new.self.items ≡ c.pairs.bytes.items ++ (value_of (slice_index s (2 * i)) * 16 + value_of (slice_index s (2 * i + 1))) ∷ [] =
    c.in_ok-push.ensures.items
    ∙ ap (λ (v : ℕ). c.pairs.bytes.items ++ (v * 16 + c.value-in-pairs.result) ∷ []) c.value.ensures
    ∙ ap (λ (v : ℕ). c.pairs.bytes.items ++ (value_of (slice_index s (2 * i)) * 16 + v) ∷ []) c.value-in-pairs.ensures in
    pairs_go_on c.pairs.bytes.items c.push.new.self.items s i c.pairs-test.true put ∙ c.pairs.invariant

pub returns : goal.returns
returns c = sym (pairs_end c.pairs.bytes.items c.args.digits.now c.pairs.i c.pairs-test.false) ∙ c.pairs.invariant
