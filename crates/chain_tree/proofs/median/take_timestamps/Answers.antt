use Rattle.std.proofs.Common.{◌≡◌, ℕ, suc, ◌+◌, ◌-◌, ◌<◌, ◌++◌, List, take, ap, sym, ◌∙◌, append-nil, arith}
use Rattle.std.proofs.lemmas.Option.{slice_get-get_or}
use Rattle.chain_tree.specs.Entries.{entry_at}
use Rattle.chain_tree.specs.Timestamps.{timestamps_up}
use Rattle.chain_tree.proofs.TimestampLemmas.{up-none, taken-more, taken-last, parent-within}
use Rattle.chain_tree.proofs.median.take_timestamps.Goals as goal

pub returns-then-at-eq0-clause-taken : goal.returns-then-at-eq0-clause-taken
returns-then-at-eq0-clause-taken c =
    let entries = c.args.entries.now in
    let left : 37 - c.up.count ≡ suc (37 - (c.up.count + 1)) = omega (arith, c.up-test.true) in
    let there = slice_get-get_or entries c.up.at _ c.up.invariant.0 in
    taken-last entries c.up.timestamps c.up.count (37 - (c.up.count + 1)) _ (omega arith) (ap (entry_at entries) (sym c.if-at-eq0.true) ∙ there)
    ∙ ap (λ (n : ℕ). take c.up.count c.up.timestamps ++ timestamps_up entries n 0) (sym left)
    ∙ ap (λ (n : ℕ). take c.up.count c.up.timestamps ++ timestamps_up entries (37 - c.up.count) n) (sym c.if-at-eq0.true)
    ∙ c.up.invariant.1

pub up-preserved : goal.up-preserved
up-preserved c =
    let entries = c.args.entries.now in
    let left : 37 - c.up.count ≡ suc (37 - (c.up.count + 1)) = omega (arith, c.up-test.true) in
    let there = slice_get-get_or entries c.up.at _ c.up.invariant.0 in
    let above : 0 < c.up.at = omega (arith, c.if-at-eq0.false) in (
      parent-within entries c.up.at _ c.requires.tree there above,
      taken-more entries c.up.timestamps c.up.count (37 - (c.up.count + 1)) c.up.at _ (omega arith) there above
          ∙ ap (λ (n : ℕ). take c.up.count c.up.timestamps ++ timestamps_up entries n c.up.at) (sym left)
          ∙ c.up.invariant.1,
    )

pub returns-clause-taken : goal.returns-clause-taken
returns-clause-taken c =
    let entries = c.args.entries.now in
    let all : c.up.count ≡ 37 = omega arith in
    let left : 37 - c.up.count ≡ 0 = omega (arith, all) in
    ap (λ (n : ℕ). take n c.up.timestamps) (sym all)
    ∙ sym (append-nil (take c.up.count c.up.timestamps))
    ∙ ap (λ (l : List ℕ). take c.up.count c.up.timestamps ++ l) (sym (ap (λ (n : ℕ). timestamps_up entries n c.up.at) left ∙ up-none entries c.up.at))
    ∙ c.up.invariant.1
