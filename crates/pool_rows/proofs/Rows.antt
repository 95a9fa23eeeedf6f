-- A header as a row of its fields.
use Rattle.std.proofs.Common.{◌≡◌, ℕ, List, [], ◌∷◌, ◌++◌, ap, sym, ◌∙◌, append_assoc}
use Rattle.std.proofs.lemmas.List.{append-nil}
use Rattle.std.specs.List.{concat}

-- these bytes are the fields side by side
pub record IsRow (row : List ℕ) (fields : List (List ℕ)) : Type 0 where
  pub is : row ≡ concat fields

concat_push : (fields : List (List ℕ)) (field : List ℕ) → concat (fields ++ field ∷ []) ≡ concat fields ++ field
concat_push [] field = append-nil field
concat_push (first ∷ fields) field = ap (λ (l : List ℕ). first ++ l) (concat_push fields field) ∙ sym (append_assoc first (concat fields) field)

pub no_fields : {row : List ℕ} → row ≡ [] → IsRow row []
no_fields is = record { is = is }

pub one_more : {row next piece field : List ℕ} {fields : List (List ℕ)} → IsRow row fields → next ≡ row ++ piece → piece ≡ field → IsRow next (fields ++ field ∷ [])
one_more {row = row} {field = field} {fields = fields} row_is next_is piece_is = record {
  is = next_is ∙ ap (λ (l : List ℕ). row ++ l) piece_is ∙ ap (λ (l : List ℕ). l ++ field) row_is.is ∙ sym (concat_push fields field);
}
