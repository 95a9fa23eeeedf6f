-- The lines of items, and which of them stand at the start of a text.
use Rattle.std.proofs.Common.{◌≡◌, inl, inr, ℕ, ◌-◌, List, [], ◌∷◌, ◌++◌, length, take, drop, Option, refl, ap, sym, subst, ◌∙◌, arith, append_assoc, append-nil, length-append, take-append-drop}
use Rattle.std.specs.List.{concat}
use Rattle.std.proofs.lemmas.List.Folds.{concat-append}
use Rattle.std.proofs.lemmas.Bool.Decides.{leb_tells}
use Rattle.std.proofs.lemmas.Grind.{common_steps}
use Rattle.verdict_defs.specs.Chain.{Chain, chain_after, chain_over}
use Rattle.chain_defs.proofs.FoldLemmas.{verdicts-append, verdicts-push}
use Rattle.report_defs.specs.Report.{line_over, lines_over}
use Rattle.report_defs.specs.Promise.{IsPrefix, all_but_last}
use Rattle.report_defs.specs.Survival.{IsKeptPrefix}
use Rattle.run_text.specs.Output.{IsPartOf, text_over}
use Rattle.run_text.proofs.LineLemmas.{prefix_shorter}

-- ---- Prefixes

pub prefix_refl : (xs : List ℕ) → IsPrefix xs xs
prefix_refl xs = ([], sym (append-nil xs))

pub prefix_trans : (a b c : List ℕ) → IsPrefix a b → IsPrefix b c → IsPrefix a c
prefix_trans a b c first second = (first.0 ++ second.0, second.1 ∙ ap (λ xs. xs ++ second.0) first.1 ∙ append_assoc a first.0 second.0)

pub prefix_front : (a b : List ℕ) → IsPrefix a (a ++ b)
prefix_front a b = (b, refl)

pub prefix_behind : (a b c : List ℕ) → IsPrefix b c → IsPrefix (a ++ b) (a ++ c)
prefix_behind a b c begins = (begins.0, ap (λ xs. a ++ xs) begins.1 ∙ sym (append_assoc a b begins.0))

pub concat-push : (items : List (List ℕ)) (item : List ℕ) → concat (items ++ item ∷ []) ≡ concat items ++ item
concat-push [] item = append-nil item
concat-push (x ∷ xs) item = ap (λ bs. x ++ bs) (concat-push xs item) ∙ sym (append_assoc x (concat xs) item)

pub lines-push : (watched : Option (List ℕ)) (chain : Chain) (items : List (List ℕ)) (item : List ℕ)
    → text_over watched chain (items ++ item ∷ []) ≡ text_over watched chain items ++ line_over watched (chain_over chain items) item
lines-push watched chain items item =
    ap concat (verdicts-push chain_after (line_over watched) chain items item)
    ∙ concat-append (lines_over watched chain items) (line_over watched (chain_over chain items) item ∷ [])
    ∙ ap (λ bs. text_over watched chain items ++ bs) (append-nil (line_over watched (chain_over chain items) item))

pub lines-append : (watched : Option (List ℕ)) (chain : Chain) (xs ys : List (List ℕ)) → text_over watched chain (xs ++ ys) ≡ text_over watched chain xs ++ text_over watched (chain_over chain xs) ys
lines-append watched chain xs ys =
    ap concat (verdicts-append chain_after (line_over watched) chain xs ys)
    ∙ concat-append (lines_over watched chain xs) (lines_over watched (chain_over chain xs) ys)

-- the lines of the first items
pub lines_front : (watched : Option (List ℕ)) (chain : Chain) (n : ℕ) (items : List (List ℕ)) → IsPrefix (text_over watched chain (take n items)) (text_over watched chain items)
lines_front watched chain n items = (
  text_over watched (chain_over chain (take n items)) (drop n items),
  ap (text_over watched chain) (sym (take-append-drop n items)) ∙ lines-append watched chain (take n items) (drop n items),
)

pub but_the_last : (items : List (List ℕ)) (last : List ℕ) → all_but_last (items ++ last ∷ []) ≡ items
but_the_last items last =
    let count : length (items ++ last ∷ []) - 1 ≡ length items = omega (arith, length-append items (last ∷ [])) in
    let front : take (length items) (items ++ last ∷ []) ≡ items = grind (arith, common_steps) in
    rw (count, front) refl

pub take_all : (items : List (List ℕ)) → take (length items) items ≡ items
take_all items = grind (arith, common_steps)

pub take_prefix : (items more : List (List ℕ)) → take (length items) (items ++ more) ≡ items
take_prefix items more = grind (arith, common_steps)

-- where of the last line a part was taken, all but the last at most
pub prefix_of_part : (watched : Option (List ℕ)) (chain : Chain) (before : List (List ℕ)) (item part : List ℕ) → IsPartOf (line_over watched (chain_over chain before) item) part
    → IsKeptPrefix watched chain (before ++ item ∷ []) (text_over watched chain before ++ part) (length before)
prefix_of_part watched chain before item part is_part = record {
  answered = inl (subst (IsPrefix (text_over watched chain before ++ part)) (sym (lines-push watched chain before item))
      (prefix_behind (text_over watched chain before) part (line_over watched (chain_over chain before) item) is_part.prefix));
  most = omega (arith, length-append before (item ∷ []));
  acknowledged = λ n most begins. elim (leb_tells n (length before)) [
    | inl within ↦ within.1
    | inr past ↦
        let all : n ≡ length (before ++ item ∷ []) = omega (arith, past.1, most, length-append before (item ∷ [])) in
        let whole : take n (before ++ item ∷ []) ≡ before ++ item ∷ [] = ap (λ k. take k (before ++ item ∷ [])) all ∙ take_all (before ++ item ∷ []) in
        let longer = prefix_shorter (text_over watched chain (before ++ item ∷ [])) (text_over watched chain before ++ part) (rw whole at begins) in
        absurd (omega (
          arith,
          longer,
          ap length (lines-push watched chain before item),
          length-append (text_over watched chain before) (line_over watched (chain_over chain before) item),
          length-append (text_over watched chain before) part,
          is_part.shorter,
        ))
  ];
}
