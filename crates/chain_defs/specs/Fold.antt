-- Items judged one after the other, each over what is kept by then (docs/COMMANDS.md, "The text").
use Rattle.std.specs.Prelude.{List, [], ◌∷◌}

-- what is kept after the items
abbrev pub keep : {K I : Type 0} → (K → I → K) → K → List I → K
keep kept_after kept [] = kept
keep kept_after kept (item ∷ items) = keep kept_after (kept_after kept item) items

-- the verdict on each item, over what the items before it left
abbrev pub verdicts : {K I V : Type 0} → (K → I → K) → (K → I → V) → K → List I → List V
verdicts kept_after verdict kept [] = []
verdicts kept_after verdict kept (item ∷ items) =
    verdict kept item ∷ verdicts kept_after verdict (kept_after kept item) items
