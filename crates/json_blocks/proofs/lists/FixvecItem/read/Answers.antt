use Rattle.std.proofs.Common.{◌+◌, ◌∷◌, ◌++◌, List, ℕ, drop, length, sym, ap, ◌∙◌, arith, refl}
use Rattle.std.proofs.lemmas.List.{drop_more}
use Rattle.std.specs.Int.{w32, to_le_bytes}
use Rattle.serde_json.specs.View.{view, items_view}
use Rattle.json_blocks.specs.Reading.{items_at}
use Rattle.json_blocks.proofs.Encodings.{flat, fails_so, flat_goes_on, fixvec_too_long, fixvec_fails, fixvec_is}
use Rattle.json_blocks.proofs.lists.FixvecItem.read.Goals as goal

pub returns-then-items : goal.returns-then-items
returns-then-items g c = fixvec_too_long g.I.Item.reads_as (view c.args.value.now) c.in_ok-items.items.now c.in_ok-items.ensures (omega (arith, c.if-items.true))

pub returns-in-Err : goal.returns-in-Err
returns-in-Err g c =
    let vs = c.in_ok-items.items.now in
    let i = c.items.item-index in
    let rest = drop_more vs i c.item-item.result c.items-test.true ∙ ap (λ v. v ∷ drop (i + 1) vs) (sym c.item-item.is) in
    fails_so c.in-Err.stop (g.I.Item.reads_as (view c.item-item.result)) _ c.in-Err.ensures
    (fixvec_fails g.I.Item.reads_as (view c.args.value.now) vs c.item-item.result c.items.fixvec.items (to_le_bytes w32 (length vs)) i c.in_ok-items.ensures c.items.invariant rest)

pub items-preserved : goal.items-preserved
items-preserved g c =
    let vs = c.in_ok-items.items.now in
    let i = c.items.item-index in
    let rest = drop_more vs i c.item-item.result c.items-test.true ∙ ap (λ v. v ∷ drop (i + 1) vs) (sym c.item-item.is) in
    flat_goes_on g.I.Item.reads_as c.items.fixvec.items c.extend_from_slice-in-items.new.self.items vs c.item-item.result c.in-Ok.encoding.items i (flat (to_le_bytes w32 (length vs)) (items_at g.I.Item.reads_as (items_view vs))) rest c.in-Ok.ensures
    (c.in_ok-extend_from_slice-2.ensures.items ∙ ap (λ (l : List ℕ). c.items.fixvec.items ++ l) c.deref.ensures.value) c.items.invariant

pub returns : goal.returns
returns g c =
    fixvec_is g.I.Item.reads_as (view c.args.value.now) c.in_ok-items.items.now c.items.fixvec.items (to_le_bytes w32 (length c.in_ok-items.items.now)) c.items.item-index c.in_ok-items.ensures c.items.invariant c.items-test.false (omega (arith, c.if-items.false)) refl
