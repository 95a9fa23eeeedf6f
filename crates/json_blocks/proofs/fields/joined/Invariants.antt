use Rattle.std.proofs.Common.{◌≡◌, ◌++◌, drop, map}
use Rattle.std.specs.List.{concat}
use Rattle.json_blocks.specs.Reading.{placed}
use Rattle.json_blocks.proofs.fields.joined.Given as goal

-- the bytes so far, and the fields at the places that are left
abbrev pub invariant-places : goal.invariant-places
invariant-places l = l.bytes.items ++ concat (placed (drop l.place-index l.places) (map (λ f. f.items) l.fields)) ≡ concat (placed l.places (map (λ f. f.items) l.fields))
