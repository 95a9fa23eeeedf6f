use Rattle.std.proofs.Common.{◌+◌, ◌∷◌, ◌++◌, [], List, ℕ, Some, drop, sym, ap, ◌∙◌}
use Rattle.std.proofs.lemmas.List.{drop_more}
use Rattle.serde_json.specs.View.{view}
use Rattle.json_blocks.specs.Reading.{pushed, dynvec_at}
use Rattle.json_blocks.proofs.Encodings.{fails_so, items_go_on, pushed_is, dynvec_is, dynvec_fails, dynvec_too_long}
use Rattle.json_blocks.proofs.lists.DynvecItem.read.Goals as goal

pub returns-in-Err : goal.returns-in-Err
returns-in-Err g c =
    let vs = c.in_ok-items.items.now in
    let i = c.items.item-index in
    let rest = drop_more vs i c.item-item.result c.items-test.true ∙ ap (λ v. v ∷ drop (i + 1) vs) (sym c.item-item.is) in
    fails_so c.in-Err.stop (g.I.Item.reads_as (view c.item-item.result)) _ c.in-Err.ensures
    (dynvec_fails g.I.Item.reads_as (view c.args.value.now) vs c.item-item.result c.items.dynvec i c.in_ok-items.ensures c.items.invariant rest)

pub returns-in-Err-put : goal.returns-in-Err-put
returns-in-Err-put g c =
    let vs = c.in_ok-items.items.now in
    let i = c.items.item-index in
    let rest = drop_more vs i c.item-item.result c.items-test.true ∙ ap (λ v. v ∷ drop (i + 1) vs) (sym c.item-item.is) in
    fails_so c.in-Err-put.stop (pushed c.items.dynvec c.deref.result.now) (dynvec_at g.I.Item.reads_as (view c.args.value.now)) c.in-Err-put.ensures
    (λ long. dynvec_too_long g.I.Item.reads_as (view c.args.value.now) vs c.item-item.result c.deref.result.now c.items.dynvec i c.in_ok-items.ensures c.items.invariant rest
    (c.in-Ok.ensures ∙ ap (λ (l : List ℕ). Some l) (sym c.deref.ensures.value)) long)

pub items-preserved : goal.items-preserved
items-preserved g c =
    let vs = c.in_ok-items.items.now in
    let i = c.items.item-index in
    let rest = drop_more vs i c.item-item.result c.items-test.true ∙ ap (λ v. v ∷ drop (i + 1) vs) (sym c.item-item.is) in
    items_go_on g.I.Item.reads_as c.items.dynvec c.put.new.builder vs c.item-item.result c.in-Ok.encoding.items i _ rest c.in-Ok.ensures
    (pushed_is _ _ _ c.in_default.ensures ∙ ap (λ l. c.items.dynvec ++ l ∷ []) c.deref.ensures.value) c.items.invariant

pub returns : goal.returns
returns g c =
    dynvec_is g.I.Item.reads_as (view c.args.value.now) c.in_ok-items.items.now c.items.dynvec c.items.item-index c.in_ok-dynvec.field-0.items c.in_ok-items.ensures c.items.invariant c.items-test.false c.in_ok-dynvec.ensures
