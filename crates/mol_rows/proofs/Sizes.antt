-- How long tables and vectors are, and short ones of them.
use Rattle.std.proofs.Common.{◌≡◌, ℕ, suc, List, [], ◌∷◌, ◌++◌, length, map, refl, ap, sym, ◌∙◌, append_assoc}
use Rattle.std.proofs.lemmas.List.{append-nil}
use Rattle.std.specs.List.{concat}
use Rattle.std.specs.Int.{w32, to_le_bytes}
use Rattle.chain_defs.specs.Molecule.{IsDynvec, IsTable, full_size, fixvec}
use Rattle.chain_defs.specs.Shape.{encoded, bytes}
use Rattle.chain_defs.proofs.MoleculeLaws.{length-dynvec}

pub length_of_dynvec : (b : List ℕ) (items : List (List ℕ)) → IsDynvec b items → length b ≡ full_size items
length_of_dynvec b items is = ap length is.encoding ∙ length-dynvec items

pub length_of_table : (n : ℕ) (b : List ℕ) (fields : List (List ℕ)) → IsTable n b fields → length b ≡ full_size fields
length_of_table n b fields is = ap length is.encoding ∙ length-dynvec fields

-- a fixvec of one item
pub fixvec_of_one : (item : List ℕ) → fixvec (item ∷ []) ≡ to_le_bytes w32 1 ++ item
unfolding fixvec
fixvec_of_one item = ap (λ (l : List ℕ). to_le_bytes w32 1 ++ l) (append-nil item)

singles : (content : List ℕ) → concat (map (λ b. b ∷ []) content) ≡ content
singles [] = refl
singles (b ∷ content) = ap (λ (l : List ℕ). b ∷ l) (singles content)

count_of : (content : List ℕ) → length (map (λ b. b ∷ []) content) ≡ length content
count_of [] = refl
count_of (b ∷ content) = ap suc (count_of content)

-- bytes after their count
pub bytes_after_count : (content : List ℕ) → encoded bytes content ≡ to_le_bytes w32 (length content) ++ content
unfolding fixvec
bytes_after_count content =
    ap (λ (n : ℕ). to_le_bytes w32 n ++ concat (map (λ b. b ∷ []) content)) (count_of content)
    ∙ ap (λ (l : List ℕ). to_le_bytes w32 (length content) ++ l) (singles content)

-- an out-point, alone and in a row
pub point_row : (hash index : List ℕ) → (hash ++ index) ≡ hash ++ (index ++ [])
point_row hash index = ap (λ (l : List ℕ). hash ++ l) (sym (append-nil index))

pub input_row_parts : (since hash index : List ℕ) → (since ++ hash) ++ index ≡ since ++ ((hash ++ (index ++ [])) ++ [])
input_row_parts since hash index =
    append_assoc since hash index ∙ ap (λ (l : List ℕ). since ++ l) (point_row hash index ∙ sym (append-nil (hash ++ (index ++ []))))

pub dep_row_parts : (hash index dep_type : List ℕ) → (hash ++ index) ++ dep_type ≡ (hash ++ (index ++ [])) ++ (dep_type ++ [])
dep_row_parts hash index dep_type =
    ap (λ (l : List ℕ). l ++ dep_type) (point_row hash index) ∙ ap (λ (l : List ℕ). (hash ++ (index ++ [])) ++ l) (sym (append-nil dep_type))
