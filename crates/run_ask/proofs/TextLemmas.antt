-- A text put together of parts.
use Rattle.std.proofs.Common.{◌≡◌, ℕ, List, [], ◌++◌, ap, sym, ◌∙◌, append_assoc}

-- the last two at once
pub six-parts : (a b c d e f v0 v1 v2 v3 v4 v5 : List ℕ) → v0 ≡ [] → v1 ≡ v0 ++ a → v2 ≡ v1 ++ b → v3 ≡ v2 ++ c → v4 ≡ v3 ++ d → v5 ≡ v4 ++ (e ++ f)
    → v5 ≡ a ++ b ++ c ++ d ++ e ++ f
six-parts a b c d e f v0 v1 v2 v3 v4 v5 none first second third fourth fifth =
    fifth ∙ ap (λ (l : List ℕ). l ++ (e ++ f)) (fourth ∙ ap (λ (l : List ℕ). l ++ d) (third ∙ ap (λ (l : List ℕ). l ++ c)
    (second ∙ ap (λ (l : List ℕ). l ++ b) (first ∙ ap (λ (l : List ℕ). l ++ a) none)))) ∙ sym (append_assoc (a ++ b ++ c ++ d) e f)
