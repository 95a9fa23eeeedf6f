-- The ids of a window, block after block.
use Rattle.std.proofs.Common.{◌≡◌, ℕ, suc, zero, ◌+◌, ◌-◌, ◌<◌, ◌≤◌, Bool, true, false, cond, ◌||◌, List, [], ◌∷◌, ◌++◌, Option, Some, None, refl, sym, ap, ◌∙◌, inl, inr, ◌⊎◌, arith}
use Rattle.std.specs.Prelude.{slice_get, is_some, length}
use Rattle.std.specs.Option.{option_map}
use Rattle.std.specs.List.{list_any, find, range_with_len}
use Rattle.std.specs.Str.{bytes_eq}
use Rattle.std.specs.Cmp.Lexicographic.{nat_list_eq_equiv}
use Rattle.std.proofs.lemmas.Bool.{cases_lt}
use Rattle.std.proofs.lemmas.List.{take_all}
use Rattle.std.proofs.lemmas.List.Folds.{list_any-append}
use Rattle.std.proofs.lemmas.Option.{slice_get_within, get_or_from_slice_get, same_Some}
use Rattle.chain_defs.specs.Schema.{Block}
use Rattle.chain_defs.specs.Specification.{Specification}
use Rattle.rule_defs.specs.Window.{proposed_ids, proposes, proposes_at, earliest}
use Rattle.rule_defs.proofs.WindowLaws.{earliest-range}

-- ---- The ids of a block

flipped : (id : List ℕ) (ids : List (List ℕ)) → list_any (bytes_eq id) ids ≡ list_any (λ other. bytes_eq other id) ids
flipped id [] = refl
flipped id (first ∷ ids) =
    ap (λ (b : Bool). b || list_any (bytes_eq id) ids) (nat_list_eq_equiv.symm id first) ∙ ap (λ (b : Bool). bytes_eq first id || b) (flipped id ids)

-- those of one more block after others
pub put-id : (id : List ℕ) (b : Block) (kept : Option Block) (old new : List (List ℕ)) → kept ≡ Some b → new ≡ old ++ proposed_ids b
    → list_any (bytes_eq id) new ≡ (list_any (bytes_eq id) old || proposes id kept)
put-id id b kept old new there is =
    ap (list_any (bytes_eq id)) is ∙ list_any-append (bytes_eq id) old (proposed_ids b)
    ∙ ap (λ (more : Bool). list_any (bytes_eq id) old || more) (flipped id (proposed_ids b) ∙ ap (proposes id) (sym there))

-- ---- The window

or-moved : (a b c : Bool) → ((a || b) || c) ≡ (a || (b || c))
or-moved true b c = refl
or-moved false b c = refl

pub range-more : (test : ℕ → Bool) (low count : ℕ) → list_any test (range_with_len low (suc count)) ≡ (list_any test (range_with_len low count) || test (low + count))
range-more test low zero = let here : low ≡ low + 0 = omega arith in or-last (test low) ∙ ap (λ (n : ℕ). false || test n) here
  where
    or-last : (b : Bool) → (b || false) ≡ (false || b)
    or-last true = refl
    or-last false = refl
range-more test low (suc count) =
    let there : (low + 1) + count ≡ low + suc count = omega arith in
    ap (λ (b : Bool). test low || b) (range-more test (low + 1) count)
    ∙ sym (or-moved (test low) (list_any test (range_with_len (low + 1) count)) (test ((low + 1) + count)))
    ∙ ap (λ (n : ℕ). (test low || list_any test (range_with_len (low + 1) count)) || test n) there

pub window-more : (test : ℕ → Bool) (low at : ℕ) (before after : Bool) → low ≤ at → before ≡ list_any test (range_with_len low (at - low))
    → after ≡ (before || test at) → after ≡ list_any test (range_with_len low (at + 1 - low))
window-more test low at before after from so_far adds =
    let here : at ≡ low + (at - low) = omega (arith, from) in
    let next : suc (at - low) ≡ at + 1 - low = omega (arith, from) in
    adds ∙ ap (λ (b : Bool). b || test at) so_far ∙ ap (λ (n : ℕ). list_any test (range_with_len low (at - low)) || test n) here
    ∙ sym (range-more test low (at - low)) ∙ ap (λ (n : ℕ). list_any test (range_with_len low n)) next

found-any : (test : ℕ → Bool) (ns : List ℕ) → list_any test ns ≡ is_some (find test ns)
found-any test [] = refl
found-any test (n ∷ ns) = by_test (test n) (found-any test ns)
  where
    by_test : (b : Bool) → list_any test ns ≡ is_some (find test ns) → (b || list_any test ns) ≡ is_some (cond b (Some n) (find test ns))
    by_test true later = refl
    by_test false later = later

pub window-proposes : (spec : Specification) (branch : List Block) (id : List ℕ) (height low end at : ℕ) (before : Bool) → low ≡ height - spec.w_far
    → end ≡ height + 1 - spec.w_close → end ≤ at → (low < at → at ≤ end) → before ≡ list_any (proposes_at branch id) (range_with_len low (at - low))
    → before ≡ is_some (earliest spec branch id height)
window-proposes spec branch id height low end at before from to past within so_far =
    let whole : at - low ≡ end - low = by_order (cases_lt low at) in
    so_far ∙ ap (λ (n : ℕ). list_any (proposes_at branch id) (range_with_len low n)) whole
    ∙ found-any (proposes_at branch id) (range_with_len low (end - low)) ∙ ap is_some (sym (earliest-range spec branch id height low end from to))
  where
    by_order : (low < at) ⊎ (at ≤ low) → at - low ≡ end - low
    by_order (inl begun) = let to_end = within begun in omega (arith, past, to_end)
    by_order (inr none) = omega (arith, past, none)
