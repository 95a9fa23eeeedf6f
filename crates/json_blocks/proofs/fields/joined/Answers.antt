use Rattle.std.proofs.Common.{◌++◌, List, ℕ, Some, map, sym, ap, ◌∙◌, append-nil}
use Rattle.std.specs.List.{concat}
use Rattle.std.proofs.lemmas.List.{drop_all}
use Rattle.json_blocks.specs.Reading.{placed}
use Rattle.json_blocks.proofs.Encodings.{joined_more}
use Rattle.json_blocks.proofs.fields.joined.Goals as goal

pub places-preserved : goal.places-preserved
places-preserved c =
    let fields = map (λ f. f.items) c.args.fields.now in
    joined_more c.places.bytes.items c.extend_from_slice.new.self.items (concat (placed c.args.places.now fields)) c.field_at.result.now fields c.args.places.now
    c.places.place-index c.places-test.true c.field_at.ensures c.in_ok-extend_from_slice.ensures.items c.places.invariant

pub returns : goal.returns
returns c =
    ap (λ (l : List ℕ). Some l) (sym (sym (append-nil c.places.bytes.items)
    ∙ ap (λ (l : List ℕ). c.places.bytes.items ++ concat (placed l (map (λ f. f.items) c.args.fields.now))) (sym (drop_all c.places.place-index c.args.places.now c.places-test.false)) ∙ c.places.invariant))
