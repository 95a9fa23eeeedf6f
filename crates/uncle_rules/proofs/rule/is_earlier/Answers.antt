use Rattle.std.proofs.Common.{◌≡◌, ℕ, take, sym, ap, ◌∙◌, arith}
use Rattle.std.specs.List.{list_any}
use Rattle.std.proofs.lemmas.Map.Keys.{any_passes_from_place}
use Rattle.chain_defs.specs.Schema.{UncleBlock}
use Rattle.chain_defs.proofs.KeptLaws.{slice_get-take}
use Rattle.uncle_rules.specs.Known as known
use Rattle.uncle_rules.proofs.ListLemmas.{any-next}
use Rattle.uncle_rules.proofs.KnownLemmas.{any-map}
use Rattle.uncle_rules.proofs.rule.is_earlier.Goals as goal

pub returns-then-is_named : goal.returns-then-is_named
returns-then-is_named c =
    let uncles = c.args.block.now.uncles in
    sym (
    any-map (known.is_named c.args.hash.now c.args.number) (λ (u : UncleBlock). u.header) (take c.args.earlier uncles)
    ∙ any_passes_from_place (λ (u : UncleBlock). known.is_named c.args.hash.now c.args.number u.header) (take c.args.earlier uncles) c.uncles.i c.uncles_item.result
    (slice_get-take c.args.earlier uncles c.uncles.i c.uncles-test.true ∙ c.uncles_item.ensures)
    (ap (known.is_named c.args.hash.now c.args.number) (sym c.header.ensures) ∙ sym c.is_named.ensures ∙ c.if-is_named.true)
    )

pub uncles-preserved : goal.uncles-preserved
uncles-preserved c =
    let uncles = c.args.block.now.uncles in (
      any-next (λ (u : UncleBlock). known.is_named c.args.hash.now c.args.number u.header) uncles c.uncles.i c.uncles_item.result c.uncles.invariant.0
          c.uncles_item.ensures (ap (known.is_named c.args.hash.now c.args.number) (sym c.header.ensures) ∙ sym c.is_named.ensures ∙ c.if-is_named.false),
      omega (arith, c.uncles-test.true),
    )

pub returns : goal.returns
returns c =
    let uncles = c.args.block.now.uncles in
    let all : c.args.earlier ≡ c.uncles.i = omega (arith, c.uncles.invariant.1, c.uncles-test.false) in
    sym (
    any-map (known.is_named c.args.hash.now c.args.number) (λ (u : UncleBlock). u.header) (take c.args.earlier uncles)
    ∙ ap (λ (n : ℕ). list_any (λ (u : UncleBlock). known.is_named c.args.hash.now c.args.number u.header) (take n uncles)) all
    ∙ c.uncles.invariant.0
    )
