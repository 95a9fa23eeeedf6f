use Rattle.std.proofs.Common.{length, sym, ◌∙◌, ltb-true, ltb-false}
use Rattle.json_blocks.proofs.Encodings.{place_is, no_place}
use Rattle.json_blocks.proofs.fields.field_at.Goals as goal

pub returns-in-Some : goal.returns-in-Some
returns-in-Some c =
    let here = c.in-Some.ensures.lookup in
    c.as_slice.ensures.value ∙ place_is c.args.fields.now c.args.place c.in-Some.field.now (ltb-true c.args.place (length c.args.fields.now) (sym here.0)) here.1

pub returns-in-None : goal.returns-in-None
returns-in-None c = no_place c.args.fields.now c.args.place (ltb-false c.args.place (length c.args.fields.now) (sym c.in-None.ensures.lookup.0))
