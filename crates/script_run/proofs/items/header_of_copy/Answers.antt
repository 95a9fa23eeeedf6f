use Rattle.std.proofs.Common.{◌≡◌, Some, true, false, refl, sym, ◌∙◌, arith}
use Rattle.std.specs.Prelude.{slice_get, ◌==◌}
use Rattle.std.specs.List.{list_any}
use Rattle.std.proofs.lemmas.Option.{slice_get_past, slice_get_read}
use Rattle.script_run.proofs.LookLemmas.{any-kept, none-there, made-among, made-elsewhere}
use Rattle.script_run.proofs.items.header_of_copy.Goals as goal

pub returns-then-i-copies-clause-found : goal.returns-then-i-copies-clause-found
returns-then-i-copies-clause-found c headers length cells shown by_place zip = none-there _ _ c.args.copies.now cells c.args.i zip (slice_get_past c.args.copies.now c.args.i (omega arith))

pub returns-then-contains-clause-found : goal.returns-then-contains-clause-found
returns-then-contains-clause-found c headers length cells shown by_place zip =
    let here : slice_get c.args.copies.now c.args.i ≡ Some c.index-copies-i.result = slice_get_read c.args.copies.now _ c.args.i c.index-copies-i.result refl (omega arith) c.index-copies-i.is in
    let any : list_any (λ it. it == c.made_in-place.result) c.args.places.now ≡ true = sym c.contains.ensures.value ∙ c.if-contains.true in
    made-among headers length c.args.part c.args.places.now shown c.args.copies.now cells c.args.i c.index-copies-i.result c.made_in-place.result by_place zip here c.made_in-place.ensures any

pub returns-else-contains-clause-found : goal.returns-else-contains-clause-found
returns-else-contains-clause-found c headers length cells shown by_place zip =
    let here : slice_get c.args.copies.now c.args.i ≡ Some c.index-copies-i.result = slice_get_read c.args.copies.now _ c.args.i c.index-copies-i.result refl (omega arith) c.index-copies-i.is in
    let any : list_any (λ it. it == c.made_in-place.result) c.args.places.now ≡ false = sym c.contains.ensures.value ∙ c.if-contains.false in
    made-elsewhere headers length c.args.part c.args.places.now c.args.copies.now cells c.args.i c.index-copies-i.result c.made_in-place.result zip here c.made_in-place.ensures any

pub returns-then-contains-clause-kept : goal.returns-then-contains-clause-kept
returns-then-contains-clause-kept c kept all = any-kept kept c.args.places.now c.made_in-place.result all (sym c.contains.ensures.value ∙ c.if-contains.true)
