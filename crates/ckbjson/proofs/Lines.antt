-- The lines of a block's transactions, one more.
use Rattle.std.proofs.Common.{◌≡◌, ℕ, ◌+◌, ◌≤◌, List, [], ◌++◌, drop, length, map, sym, ap, ◌∙◌, append_assoc, append-nil}
use Rattle.std.specs.Prelude.{Some, slice_get}
use Rattle.std.specs.List.{concat}
use Rattle.std.proofs.lemmas.List.{drop_all}
use Rattle.chain_defs.specs.Schema.{Transaction}
use Rattle.chain_defs.proofs.WalkLemmas.{drop-there}
use Rattle.ckbjson.specs.Items.{transaction_line}

pub one-more : (before after line whole : List ℕ) (ts : List Transaction) (i : ℕ) (t : Transaction) → slice_get ts i ≡ Some t → line ≡ transaction_line t
    → after ≡ before ++ line → before ++ concat (map transaction_line (drop i ts)) ≡ whole → after ++ concat (map transaction_line (drop (i + 1) ts)) ≡ whole
one-more before after line whole ts i t there line_is after_is before_is =
    let rest : List ℕ = concat (map transaction_line (drop (i + 1) ts)) in
    ap (λ (l : List ℕ). l ++ rest) after_is
    ∙ append_assoc before line rest
    ∙ ap (λ (l : List ℕ). before ++ (l ++ rest)) line_is
    ∙ ap (λ (l : List Transaction). before ++ concat (map transaction_line l)) (sym (drop-there ts i t there))
    ∙ before_is

pub no-more : (lines whole : List ℕ) (ts : List Transaction) (i : ℕ) → length ts ≤ i → lines ++ concat (map transaction_line (drop i ts)) ≡ whole → lines ≡ whole
no-more lines whole ts i end before =
    sym (append-nil lines) ∙ ap (λ (l : List Transaction). lines ++ concat (map transaction_line l)) (sym (drop_all i ts end)) ∙ before

-- four lines, one after another
pub four : (empty l1 l2 l3 l4 a b d e one two three last : List ℕ) → empty ≡ [] → l1 ≡ empty ++ a → l2 ≡ l1 ++ b → l3 ≡ l2 ++ d → l4 ≡ l3 ++ e
    → a ≡ one → b ≡ two → d ≡ three → e ≡ last → l4 ≡ one ++ two ++ three ++ last
four empty l1 l2 l3 l4 a b d e one two three last none first second third fourth is_one is_two is_three is_last =
    let begun : l1 ≡ one = first ∙ (ap (λ (l : List ℕ). l ++ a) none ∙ is_one) in
    let two_lines : l2 ≡ one ++ two = second ∙ (ap (λ (l : List ℕ). l ++ b) begun ∙ ap (λ (l : List ℕ). one ++ l) is_two) in
    let three_lines : l3 ≡ one ++ two ++ three = third ∙ (ap (λ (l : List ℕ). l ++ d) two_lines ∙ ap (λ (l : List ℕ). one ++ two ++ l) is_three) in
    fourth ∙ (ap (λ (l : List ℕ). l ++ e) three_lines ∙ ap (λ (l : List ℕ). one ++ two ++ three ++ l) is_last)
