use Rattle.std.proofs.Common.{◌≡◌, ℕ, ◌-◌, ◌<◌, true, List, [], length, get_or, sym, ◌∙◌, arith}
use Rattle.std.specs.Str.{bytes_eq}
use Rattle.std.proofs.lemmas.List.{get_or_default}
use Rattle.sorted_keys.proofs.KeyLemmas.{alike, moved, none-beside}
use Rattle.sorted_keys.proofs.distinct.are_distinct.Goals as goal

pub returns-then-eq : goal.returns-then-eq
returns-then-eq g c =
    let keys : List (List ℕ) = c.sort_unstable.new.self in
    let one : List ℕ = c.index-keys-i.result in
    let other : List ℕ = c.index-keys-i-in-later.result in
    let within : c.later.i < length keys = c.later-test.true in
    let first : one ≡ get_or keys (c.later.i - 1) [] = c.index-keys-i.is ∙ get_or_default keys (c.later.i - 1) one [] (omega (arith, within)) in
    let second : other ≡ get_or keys c.later.i [] = c.index-keys-i-in-later.is ∙ get_or_default keys c.later.i other [] within in
    let same : bytes_eq one other ≡ true = sym c.eq.ensures ∙ c.if-eq.true in
    sym (moved c.args.keys.now keys c.sort_unstable.ensures.permutation
    ∙ alike keys (c.later.i - 1) c.later.i [] (omega (arith, c.later.auto.i)) within (sym (λ i. bytes_eq (first i) (second i)) ∙ same))

pub returns : goal.returns
returns g c =
    sym (moved c.args.keys.now c.sort_unstable.new.self c.sort_unstable.ensures.permutation
    ∙ none-beside c.sort_unstable.new.self c.sort_unstable.ensures.sorted (λ k d below. c.later.invariant k d (omega (arith, below, c.later-test.false))))
