use Rattle.std.proofs.Common.{◌≡◌, ◌++◌, drop, map}
use Rattle.json_blocks.specs.Reading.{placed}
use Rattle.json_blocks.proofs.fields.table.Given as goal

-- the fields so far, and those at the places that are left
abbrev pub invariant-places : goal.invariant-places
invariant-places l = l.table ++ placed (drop l.place-index l.places) (map (λ f. f.items) l.fields) ≡ placed l.places (map (λ f. f.items) l.fields)
