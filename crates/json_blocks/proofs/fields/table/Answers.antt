use Rattle.std.proofs.Common.{◌+◌, ◌++◌, List, ℕ, drop, map, sym, ap, ◌∙◌, append-nil}
use Rattle.std.proofs.lemmas.List.{drop_all}
use Rattle.json_blocks.specs.Reading.{pushed, table_from, placed}
use Rattle.json_blocks.proofs.Encodings.{fails_so, too_long, pushed_is, next_placed, one_more, table_is}
use Rattle.json_blocks.proofs.fields.table.Goals as goal

pub returns-in-Err : goal.returns-in-Err
returns-in-Err c =
    let fields = map (λ f. f.items) c.args.fields.now in
    let places = c.args.places.now in
    let i = c.places.place-index in
    let field = c.field_at.result.now in
    fails_so c.in-Err.stop (pushed c.places.table field) (table_from (placed places fields)) c.in-Err.ensures
    (λ long. too_long c.places.table (placed (drop (i + 1) places) fields) field (placed places fields) long
    (next_placed c.places.table (placed places fields) fields field places i c.places-test.true c.field_at.ensures c.places.invariant))

pub places-preserved : goal.places-preserved
places-preserved c =
    let fields = map (λ f. f.items) c.args.fields.now in
    one_more c.places.table c.put.new.builder (placed c.args.places.now fields) fields c.field_at.result.now c.args.places.now c.places.place-index
    c.places-test.true c.field_at.ensures (pushed_is _ _ _ c.in_default.ensures) c.places.invariant

pub returns : goal.returns
returns c =
    table_is c.places.table _ c.in_ok-dynvec.field-0.items c.in_ok-dynvec.ensures
    (sym (append-nil c.places.table) ∙ ap (λ (l : List ℕ). c.places.table ++ placed l (map (λ f. f.items) c.args.fields.now)) (sym (drop_all c.places.place-index c.args.places.now c.places-test.false)) ∙ c.places.invariant)
