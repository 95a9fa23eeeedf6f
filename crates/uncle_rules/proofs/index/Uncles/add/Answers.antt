use Rattle.std.proofs.Common.{◌≡◌, List, ◌++◌, ◌∷◌, [], map, take, refl, ap, sym, ◌∙◌, arith, append_assoc}
use Rattle.chain_defs.specs.Kept.{header_hash}
use Rattle.chain_defs.specs.Schema.{Header}
use Rattle.uncle_rules.specs.Embedded.{Embedded, embedded_at}
use Rattle.uncle_rules.proofs.ListLemmas.{map-push}
use Rattle.uncle_rules.proofs.index.Uncles.add.Goals as goal

pub uncles-preserved : goal.uncles-preserved
uncles-preserved c =
    let uncles = c.args.block.now.uncles in
    let before : List Embedded = map (embedded_at c.args.place) (take c.uncles.i uncles) in
    let hash : c.header_hash.result ≡ header_hash c.uncles_item.result.header = c.header_hash.ensures ∙ ap header_hash c.header-header.ensures in
    let number : c.number.result ≡ c.uncles_item.result.header.number = c.number.ensures ∙ ap (λ (h : Header). h.number) c.header-header.ensures in
    let one : record { hash = c.header_hash.result; number = c.number.result; place = c.args.place } ≡ embedded_at c.args.place c.uncles_item.result =
    rw (hash, number) refl in (
      c.push.ensures.embedded
          ∙ ap (λ (l : List Embedded). l ++ record { hash = c.header_hash.result; number = c.number.result; place = c.args.place } ∷ []) c.uncles.invariant.0
          ∙ append_assoc c.args.self.now.embedded before (record { hash = c.header_hash.result; number = c.number.result; place = c.args.place } ∷ [])
          ∙ ap (λ (e : Embedded). c.args.self.now.embedded ++ (before ++ e ∷ [])) one
          ∙ ap (λ (l : List Embedded). c.args.self.now.embedded ++ l) (sym (map-push (embedded_at c.args.place) uncles c.uncles.i c.uncles_item.result c.uncles_item.ensures)),
      omega (arith, c.uncles.invariant.1, c.push.ensures.spare),
      omega (arith, c.uncles-test.true, c.uncles_count-i-end.ensures.value),
    )
